use Rattle.std.proofs.Common.{◌<◌, map, false, refl, arith}
use Rattle.std.proofs.lemmas.Bool.{false≢true}
use Rattle.all_or_none.specs.Dormancy.{phase_at}
use Rattle.query_engine.specs.Times.{clocks_in}
use Rattle.query_engine.proofs.Named.{noted_same}
use Rattle.query_engine.proofs.Noting.{queries_of}
use Rattle.query_engine.proofs.Dispatched.{watching_same, left_on}
use Rattle.query_engine.proofs.Skipped.{Went, went_keeping, went_stands, went_same, went_cursors, went_kept}
use Rattle.query_engine.proofs.engine.Engine.skip_to.Goals as goal

pub invariant_of-self : goal.invariant_of-self
invariant_of-self c =
    let further : c.self.inside.count < c.args.position = (let f = c.if-position-self.false in omega arith) in
    let w : Went c.self.inside.schema c.self.inside.count c.args.position (clocks_in c.self.inside.times) c.self.inside.query_states.items c.self.inside.peaks.items c.args.self.now = record { well = c.well_declared.ensures; further = further; known = c.self.invariant.2.left.known; keeps = c.self.invariant.0; is = c.self.view_is } in
    let query_states = c.self.inside.query_states.items in (
      went_keeping c.self.inside.schema c.self.inside.count c.args.position (clocks_in c.self.inside.times) query_states c.self.inside.peaks.items c.args.self.now w,
      noted_same (queries_of query_states) (queries_of query_states) (map (phase_at c.self.inside.count) query_states) (map (phase_at c.args.position) query_states) c.self.inside.told false c.self.inside.touched.items c.self.inside.touched.items c.self.inside.all.items refl c.self.invariant.1
          (λ told. absurd (false≢true told)),
      watching_same c.self.inside.schema (queries_of query_states) (queries_of query_states) c.self.inside.count c.args.position query_states query_states c.self.inside.dispatch.leaf_index c.self.inside.dispatch.leaf_index c.self.inside.dispatch.activity c.self.inside.dispatch.activity c.self.inside.dispatch.marked c.self.inside.dispatch.read c.self.inside.dispatch.marked c.self.inside.dispatch.read c.self.inside.dispatch.leaves.items c.self.inside.dispatch.leaves.items refl
          refl (refl, refl) refl refl refl (left_on c.self.inside.count c.args.position c.self.inside.dispatch.activity query_states (omega arith) c.self.invariant.2.left) c.self.invariant.2,
      c.self.invariant.3,
    )

pub returns-clause-stands : goal.returns-clause-stands
returns-clause-stands c =
    let further : c.self.inside.count < c.args.position = (let f = c.if-position-self.false in omega arith) in
    let w : Went c.self.inside.schema c.self.inside.count c.args.position (clocks_in c.self.inside.times) c.self.inside.query_states.items c.self.inside.peaks.items c.args.self.now = record { well = c.well_declared.ensures; further = further; known = c.self.invariant.2.left.known; keeps = c.self.invariant.0; is = c.self.view_is } in
    went_stands c.self.inside.schema c.self.inside.count c.args.position (clocks_in c.self.inside.times) c.self.inside.query_states.items c.self.inside.peaks.items c.args.self.now w

pub returns-clause-cursors : goal.returns-clause-cursors
returns-clause-cursors c =
    let further : c.self.inside.count < c.args.position = (let f = c.if-position-self.false in omega arith) in
    let w : Went c.self.inside.schema c.self.inside.count c.args.position (clocks_in c.self.inside.times) c.self.inside.query_states.items c.self.inside.peaks.items c.args.self.now = record { well = c.well_declared.ensures; further = further; known = c.self.invariant.2.left.known; keeps = c.self.invariant.0; is = c.self.view_is } in
    went_cursors c.self.inside.schema c.self.inside.count c.args.position (clocks_in c.self.inside.times) c.self.inside.query_states.items c.self.inside.peaks.items c.args.self.now w

pub returns-clause-same : goal.returns-clause-same
returns-clause-same c =
    let further : c.self.inside.count < c.args.position = (let f = c.if-position-self.false in omega arith) in
    let w : Went c.self.inside.schema c.self.inside.count c.args.position (clocks_in c.self.inside.times) c.self.inside.query_states.items c.self.inside.peaks.items c.args.self.now = record { well = c.well_declared.ensures; further = further; known = c.self.invariant.2.left.known; keeps = c.self.invariant.0; is = c.self.view_is } in
    went_same c.self.inside.schema c.self.inside.count c.args.position (clocks_in c.self.inside.times) c.self.inside.query_states.items c.self.inside.peaks.items c.args.self.now w

pub returns-clause-kept : goal.returns-clause-kept
returns-clause-kept c =
    let further : c.self.inside.count < c.args.position = (let f = c.if-position-self.false in omega arith) in
    let w : Went c.self.inside.schema c.self.inside.count c.args.position (clocks_in c.self.inside.times) c.self.inside.query_states.items c.self.inside.peaks.items c.args.self.now = record { well = c.well_declared.ensures; further = further; known = c.self.invariant.2.left.known; keeps = c.self.invariant.0; is = c.self.view_is } in
    went_kept c.self.inside.schema c.self.inside.count c.args.position (clocks_in c.self.inside.times) c.self.inside.query_states.items c.self.inside.peaks.items c.args.self.now w
