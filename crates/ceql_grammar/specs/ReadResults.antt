-- What a reading function returned is what its reader gives, unless memory ran out.
use Rattle.std.specs.Prelude.{◌≡◌, ◌<◌, ◌≤◌, List, [], ◌∷◌, ◌++◌, length, map, Option, Some, None, Result, Ok, Err, IfOk}
use denote.Ref.{Bor}
use Rattle.cer_base.specs.declared.OrMemory.{OrMemory}
use Rattle.cer_base.specs.declared.OrMemory.TheVariants as wanted
use Rattle.ceql_lexer.specs.declared.Token.{Token}
use Rattle.ceql_grammar.specs.RuleForms.{Out}

-- the tokens left at a failure are those of the reader; memory may run out at any time
abbrev pub StopsAs : {Y : Type 0} → OrMemory (Bor (List Token)) → Out Y → Type 0
StopsAs wanted.Memory out = Unit {0}
StopsAs (wanted.Fault rest) out = out ≡ Err rest.now

-- the value, seen by view, and the tokens after it are those of the reader
abbrev pub ReadsAs : {X Y : Type 0} → (X → Y) → Result (X × Bor (List Token)) (OrMemory (Bor (List Token))) → Out Y → Type 0
ReadsAs view (Ok p) out = out ≡ Ok (view p.0, p.1.now)
ReadsAs view (Err e) out = StopsAs e out

-- of these tokens a value is read as the reader does, and one of them at least
pub record Reads {X Y : Type 0} (view : X → Y) (tokens : List Token) (result : Result (X × Bor (List Token)) (OrMemory (Bor (List Token)))) (out : Out Y) : Type 0 where
  pub value : ReadsAs view result out
  pub shorter : IfOk result (λ p. length p.1.now < length tokens)

-- of these tokens a value is read as the reader does, of none of them perhaps
pub record MayRead {X Y : Type 0} (view : X → Y) (tokens : List Token) (result : Result (X × Bor (List Token)) (OrMemory (Bor (List Token)))) (out : Out Y) : Type 0 where
  pub value : ReadsAs view result out
  pub no_longer : IfOk result (λ p. length p.1.now ≤ length tokens)

-- one value more stands behind the old ones, each seen by view, and it and the tokens after it are those
-- of the reader
abbrev pub ReadsBehind : {X Y : Type 0} → (X → Y) → List X → List X → Result (Bor (List Token)) (OrMemory (Bor (List Token))) → Out Y → Type 0
ReadsBehind view old new (Ok rest) out = (value : _) × ((map view new ≡ map view old ++ value ∷ []) × (out ≡ Ok (value, rest.now)))
ReadsBehind view old new (Err e) out = StopsAs e out

-- the values, each seen by view, and the tokens after them are those of the reader
abbrev pub ReadsOnto : {X Y : Type 0} → (X → Y) → List X → Result (Bor (List Token)) (OrMemory (Bor (List Token))) → Out (List Y) → Type 0
ReadsOnto view new (Ok rest) out = out ≡ Ok (map view new, rest.now)
ReadsOnto view new (Err e) out = StopsAs e out

-- the tokens after a word or a sign are those of the reader
abbrev pub ReadsPast : Result (Bor (List Token)) (OrMemory (Bor (List Token))) → Out (Unit {0}) → Type 0
ReadsPast (Ok rest) out = out ≡ Ok (tt, rest.now)
ReadsPast (Err e) out = StopsAs e out

-- nothing is read, and what stands in front is as the reader wants it
abbrev pub Stays : List Token → Result (Unit {0}) (OrMemory (Bor (List Token))) → Out (Unit {0}) → Type 0
Stays tokens (Ok u) out = out ≡ Ok (tt, tokens)
Stays tokens (Err e) out = StopsAs e out

-- the tokens after a word or a sign, or none where another token stands in front
abbrev pub Skips : Option (Bor (List Token)) → Option (Unit {0} × List Token) → Type 0
Skips (Some rest) out = out ≡ Some (tt, rest.now)
Skips None out = out ≡ None

-- the same with a value
abbrev pub SkipsTo : {X : Type 0} → Option (X × Bor (List Token)) → Option (X × List Token) → Type 0
SkipsTo (Some p) out = out ≡ Some (p.0, p.1.now)
SkipsTo None out = out ≡ None

-- all of the tokens are read
abbrev pub ReadsAllAs : {X Y : Type 0} → (X → Y) → Result X (OrMemory (Bor (List Token))) → Out Y → Type 0
ReadsAllAs view (Ok x) out = out ≡ Ok (view x, [])
ReadsAllAs view (Err e) out = StopsAs e out
