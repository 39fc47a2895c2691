-- `write::block::put_block` meets its contract. Assumes nothing.
use mathlib.Core.Path.{sym, ◌∙◌}
use native.Mathlib.Omega.{arith}
use borrow.Author.Tests.{eqb-true, eqb-false}
use lib.ListN.{length}
use Rattle.write.proofs.Placing.{block_size_lem}
use Rattle.write.proofs.Bones.{block_room, block_none, block-some}
use Rattle.write.proofs.block.put_block.Goals as goal

pub returns-then-is_empty : goal.returns-then-is_empty
returns-then-is_empty c =
    record { bytes = block_none _ _ _ _ (eqb-true (length c.args.bones.now) 0 (sym c.is_empty.ensures ∙ c.if-is_empty.true)) }

pub put_run-requires : goal.put_run-requires
put_run-requires c =
    let some = eqb-false (length c.args.bones.now) 0 (sym c.is_empty.ensures ∙ c.if-is_empty.false) in
    omega (arith, c.requires.room, block_size_lem (length c.args.bones.now) some)

pub put_bones-requires : goal.put_bones-requires
put_bones-requires c =
    block_room (eqb-false (length c.args.bones.now) 0 (sym c.is_empty.ensures ∙ c.if-is_empty.false)) c.put_run.auto.d c.requires

pub returns : goal.returns
returns c = record {
  bytes =
      block-some c.args.d.now c.args.at _ c.args.bones.now
      (eqb-false (length c.args.bones.now) 0 (sym c.is_empty.ensures ∙ c.if-is_empty.false)) c.put_run.ensures.bytes
      c.put_bones.ensures.bytes;
}
