-- What clap's kinds of error say of the words.
use Rattle.std.proofs.Common.{◌≡◌, [], ◌∷◌, Err, refl, inl, inr, false}
use Rattle.clap.specs.Words.{HasKind, IsAmong, Kinds, kind_of}
use Rattle.clap.specs.declared.error.Error.{Error}
use Rattle.clap.specs.declared.error.kind.ErrorKind.{ErrorKind}
use Rattle.clap.specs.declared.error.kind.ErrorKind.TheVariants.{OutOfMemory}
use Rattle.cer_base.specs.Answers.{OnFault}
use Rattle.cer_base.specs.declared.OrMemory.{OrMemory}
use Rattle.cer_base.specs.declared.OrMemory.TheVariants.{Fault, Memory}
use Rattle.command_words.specs.CommandLine.{has_no_kind}

among_some : (kind : ErrorKind) (kinds : Kinds) → IsAmong kind kinds → has_no_kind kinds ≡ false
among_some kind [] h = absurd h
among_some kind (k ∷ ks) h = refl

-- an error that is no lack of memory comes only where clap refuses the words
pub refused_for_cause : {F : Type 0} (T : Type 0) (kinds : Kinds) (e : Error) (stop : OrMemory F) → HasKind kinds e → (kind_of e ≡ OutOfMemory → stop ≡ Memory)
    → OnFault {T = T} (Err stop) (λ u. has_no_kind kinds ≡ false)
refused_for_cause T kinds e Memory has memory = tt
refused_for_cause T kinds e (Fault u) has memory = elim has [
  | inl none ↦
      let clash = memory none in
      cc
  | inr among ↦ among_some (kind_of e) kinds among
]
