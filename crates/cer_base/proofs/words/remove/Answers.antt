use Rattle.std.proofs.lemmas.List.{length-set}
use Rattle.cer_base.proofs.WordBits.{removed, kept_room}
use Rattle.cer_base.proofs.words.remove.Goals as goal

pub returns-clause-members : goal.returns-clause-members
returns-clause-members c = removed c.args.words.now c.args.k c.requires

pub returns-clause-room : goal.returns-clause-room
returns-clause-room c = kept_room c.args.words.now _ (length-set c.args.words.now _ _)
