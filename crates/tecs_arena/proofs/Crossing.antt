-- The parts of a block may go to another thread: the places as what they hold may, the deed where blocks may be given back on any thread.
use Rattle.std.specs.Prelude.{ℕ, ◌+◌, List, [], ◌∷◌, Option, Some, None}
use Rattle.std.specs.Mem.{type_size}
use base.Fraction.{full_share}
use base.Shift.{Keyless}
use denote.RattleType.{RattleType}
use denote.RawPtr.{Ptr, block_ptr, null_ptr}
use denote.Struct.Struct.{exits_of}
use denote.Struct.Owning.{fields, shape, to}
use denote.Param.Send.{IsSend, AllSend, part_keyless, owning_send, struct_send, sendable}
use Rattle.core.specs.declared.alloc.Allocator.{Ghosts}
use Rattle.std_alloc.proofs.SendSync.{FreesAnywhere, quiet}
use Rattle.tecs_arena.specs.Ownership.{slots, cells_own}
use Rattle.tecs_arena.specs.contracts.raw.Deed as deed
use Rattle.tecs_arena.specs.contracts.raw.Places as places

module _ (R : RattleType) (crosses : IsSend R) where
  row_keyless : (b o : ℕ) (held : List (Option R.Denot)) → Keyless (slots R b o held)
  row_keyless b o [] = tt
  row_keyless b o (None ∷ held) = (tt, row_keyless b (o + type_size R) held)
  row_keyless b o (Some x ∷ held) = (part_keyless R crosses full_share x b o, row_keyless b (o + type_size R) held)

  all_keyless : (at : Ptr) (held : List (Option R.Denot)) → Keyless (cells_own R at held)
  all_keyless null_ptr held = tt
  all_keyless (block_ptr b o) held = (tt, row_keyless b o held)

  pub send_places : IsSend (places.the_row R)
  send_places =
      let T = places.the_type R in
      let inside : AllSend (fields T) = (search sendable, tt) in
      owning_send T inside (λ p. all_keyless p.at p.slots) (λ k. quiet (to T) (exits_of k (fields T)) ((struct_send (shape T) inside).leaving k))

pub send_deed : (R A : RattleType) (g : Ghosts A.Denot) → FreesAnywhere A.Denot g → IsSend (deed.the_row R A g)
send_deed R A g anywhere =
    let T = deed.the_type R A g in
    let inside : AllSend (fields T) = (search sendable, tt) in
    owning_send T inside (λ d. anywhere.frees d.alloc _ d.at) (λ k. quiet (to T) (exits_of k (fields T)) ((struct_send (shape T) inside).leaving k))
