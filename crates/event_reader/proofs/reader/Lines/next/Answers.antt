use Rattle.std.proofs.Common.{◌+◌, Result, Ok, Err, sym, ◌∙◌, subst, ap}
use Rattle.event_reader.specs.declared.LineFault.{LineFault}
use Rattle.event_reader.specs.declared.LineFault.TheVariants.{LineTooLong, InputTooLong}
use Rattle.event_reader.specs.declared.reader.Next.{Next}
use Rattle.event_reader.specs.declared.reader.Next.TheVariants.{Line, End}
use Rattle.event_reader.specs.LineReaders.{LineReader, HasGiven, HasTakenFor}
use Rattle.event_reader.specs.contracts.reader.Lines.{the_view}
use Rattle.event_reader.proofs.NextLines.{next_line, next_long, next_full, next_cut, next_last, took_ended, took_line, took_long, took_cut, took_full}
use Rattle.event_reader.proofs.reader.Lines.next.Goals as goal

pub returns-in-Ok-LineFeed-clause-lines : goal.returns-in-Ok-LineFeed-clause-lines
returns-in-Ok-LineFeed-clause-lines g c = λ bytes texts given.
    let stop = rw c.in-Ok-LineFeed.field-0-is at c.in-Ok-LineFeed.ensures.stop in
    next_line (the_view c.self.inside) c.give.new.self _ _ c.seek.new.self.pending c.in-Ok-LineFeed.len bytes texts
    (subst (λ r. HasGiven r bytes (g.Q.Source.left c.args.source.now) texts) (sym c.self.view_is) given)
    c.if-self.false c.seek.ensures.bytes c.seek.ensures.room stop.0 stop.1 c.give.ensures

pub returns-in-Ok-Long-clause-lines : goal.returns-in-Ok-Long-clause-lines
returns-in-Ok-Long-clause-lines g c = λ bytes texts given.
    let stop = rw c.in-Ok-Long.field-0-is at c.in-Ok-Long.ensures.stop in
    next_long (the_view c.self.inside) c.fault-in-Ok-Long.new.self _ _ c.seek.new.self.pending bytes texts c.fault-in-Ok-Long.result
    (subst (λ r. HasGiven r bytes (g.Q.Source.left c.args.source.now) texts) (sym c.self.view_is) given)
    c.if-self.false c.seek.ensures.bytes c.seek.ensures.room stop.0 stop.1 (ap (λ (r : LineReader). r.budget) c.fault-in-Ok-Long.ensures.closed) (c.fault-in-Ok-Long.ensures.answer ∙ ap (λ (r : LineReader). let a : Result Next LineFault = Err (LineTooLong (r.number + 1)) in a) c.fault.view_is)

pub returns-in-Ok-Full-clause-lines : goal.returns-in-Ok-Full-clause-lines
returns-in-Ok-Full-clause-lines g c = λ bytes texts given.
    let stop = rw c.in-Ok-Full.field-0-is at c.in-Ok-Full.ensures.stop in
    next_full (the_view c.self.inside) c.fault-in-Ok-Full-2.new.self _ _ c.seek.new.self.pending bytes texts c.fault-in-Ok-Full-2.result
    (subst (λ r. HasGiven r bytes (g.Q.Source.left c.args.source.now) texts) (sym c.self.view_is) given)
    c.if-self.false c.seek.ensures.bytes stop.0 stop.1 (ap (λ (r : LineReader). r.budget) c.fault-in-Ok-Full-2.ensures.closed) (c.fault-in-Ok-Full-2.ensures.answer ∙ ap (λ (r : LineReader). let a : Result Next LineFault = Err (InputTooLong r.budget) in a) c.fault-in-Ok-Full.view_is)

pub returns-in-Ok-End-clause-lines : goal.returns-in-Ok-End-clause-lines
returns-in-Ok-End-clause-lines g c = λ bytes texts given.
    let stop = rw c.in-Ok-End.field-0-is at c.in-Ok-End.ensures.stop in
    next_last (the_view c.self.inside) c.last.new.self _ _ c.seek.new.self.pending c.seek.new.self.text bytes texts c.last.result
    (subst (λ r. HasGiven r bytes (g.Q.Source.left c.args.source.now) texts) (sym c.self.view_is) given)
    c.if-self.false c.seek.ensures.bytes stop.0 stop.1 stop.2 c.last.ensures.none c.last.ensures.some

pub returns-in-Err-clause-lines : goal.returns-in-Err-clause-lines
returns-in-Err-clause-lines g c = λ bytes texts given.
    next_cut (the_view c.self.inside) c.fault-in-Err.new.self _ _ c.seek.new.self.pending bytes texts c.fault-in-Err.result
    (subst (λ r. HasGiven r bytes (g.Q.Source.left c.args.source.now) texts) (sym c.self.view_is) given)
    c.if-self.false c.seek.ensures.bytes c.seek.ensures.room c.in-Err.ensures.stop.0 (ap (λ (r : LineReader). r.budget) c.fault-in-Err.ensures.closed) c.fault-in-Err.ensures.answer

pub returns-in-Ok-LineFeed-clause-took : goal.returns-in-Ok-LineFeed-clause-took
returns-in-Ok-LineFeed-clause-took g c = λ bytes texts given.
    let P : LineReader → Type 0 = λ r. HasTakenFor r.budget bytes (g.Q.Source.left c.seek.new.source) (Ok Line) in
    subst P c.self.view_is
    (took_line (the_view c.self.inside) (g.Q.Source.left c.args.source.now) (g.Q.Source.left c.seek.new.source) c.seek.new.self.pending bytes texts Line
    (subst (λ r. HasGiven r bytes (g.Q.Source.left c.args.source.now) texts) (sym c.self.view_is) given)
    c.seek.ensures.bytes c.seek.ensures.room)

pub returns-in-Ok-End-clause-took : goal.returns-in-Ok-End-clause-took
returns-in-Ok-End-clause-took g c = λ bytes texts given.
    let P : LineReader → Type 0 = λ r. HasTakenFor r.budget bytes (g.Q.Source.left c.seek.new.source) (Ok c.last.result) in
    subst P c.self.view_is
    (took_line (the_view c.self.inside) (g.Q.Source.left c.args.source.now) (g.Q.Source.left c.seek.new.source) c.seek.new.self.pending bytes texts c.last.result
    (subst (λ r. HasGiven r bytes (g.Q.Source.left c.args.source.now) texts) (sym c.self.view_is) given)
    c.seek.ensures.bytes c.seek.ensures.room)

pub returns-in-Ok-Long-clause-took : goal.returns-in-Ok-Long-clause-took
returns-in-Ok-Long-clause-took g c = λ bytes texts given.
    let P : LineReader → Type 0 = λ r. HasTakenFor r.budget bytes (g.Q.Source.left c.seek.new.source) c.fault-in-Ok-Long.result in
    subst P c.self.view_is
    (took_long (the_view c.self.inside) (g.Q.Source.left c.args.source.now) (g.Q.Source.left c.seek.new.source) c.seek.new.self.pending bytes texts _ c.fault-in-Ok-Long.result
    (subst (λ r. HasGiven r bytes (g.Q.Source.left c.args.source.now) texts) (sym c.self.view_is) given)
    c.seek.ensures.bytes c.seek.ensures.room c.fault-in-Ok-Long.ensures.answer)

pub returns-in-Ok-Full-clause-took : goal.returns-in-Ok-Full-clause-took
returns-in-Ok-Full-clause-took g c = λ bytes texts given.
    let P : LineReader → Type 0 = λ r. HasTakenFor r.budget bytes (g.Q.Source.left c.seek.new.source) c.fault-in-Ok-Full-2.result in
    subst P c.self.view_is
    (took_full (the_view c.self.inside) (g.Q.Source.left c.args.source.now) (g.Q.Source.left c.seek.new.source) c.seek.new.self.pending bytes texts _ c.fault-in-Ok-Full-2.result
    (subst (λ r. HasGiven r bytes (g.Q.Source.left c.args.source.now) texts) (sym c.self.view_is) given)
    c.seek.ensures.bytes (rw c.in-Ok-Full.field-0-is at c.in-Ok-Full.ensures.stop).1 c.fault-in-Ok-Full-2.ensures.answer)

pub returns-in-Err-clause-took : goal.returns-in-Err-clause-took
returns-in-Err-clause-took g c = λ bytes texts given.
    let P : LineReader → Type 0 = λ r. HasTakenFor r.budget bytes (g.Q.Source.left c.seek.new.source) c.fault-in-Err.result in
    subst P c.self.view_is
    (took_cut (the_view c.self.inside) (g.Q.Source.left c.args.source.now) (g.Q.Source.left c.seek.new.source) c.seek.new.self.pending bytes texts c.fault-in-Err.result
    (subst (λ r. HasGiven r bytes (g.Q.Source.left c.args.source.now) texts) (sym c.self.view_is) given)
    c.seek.ensures.bytes c.seek.ensures.room c.fault-in-Err.ensures.answer)

pub returns-then-self-clause-took : goal.returns-then-self-clause-took
returns-then-self-clause-took g c = λ bytes texts given.
    let P : LineReader → Type 0 = λ r. HasTakenFor r.budget bytes (g.Q.Source.left c.args.source.now) (Ok End) in
    subst P c.self.view_is
    (took_ended (the_view c.self.inside) (g.Q.Source.left c.args.source.now) bytes texts End
    (subst (λ r. HasGiven r bytes (g.Q.Source.left c.args.source.now) texts) (sym c.self.view_is) given)
    c.self.invariant.0)
