-- `write::block::put_bones` meets its contract. Assumes nothing.
use mathlib.Core.Path.{refl}
use native.Mathlib.Omega.{arith}
use Rattle.write.proofs.Bones.{boning_short, boning_small, boning_room, boning_more, boning_all}
use Rattle.write.proofs.block.put_bones.Goals as goal

pub name_bytes-size-requires : goal.name_bytes-size-requires
name_bytes-size-requires c = boning_short c.requires c.loop-row.invariant c.loop-row-test.true refl

pub pointer-requires : goal.pointer-requires
pointer-requires c = omega (
  arith,
  boning_small c.requires c.loop-row.invariant c.loop-row-test.true refl c.name_bytes-size.ensures.answer,
)

pub put_bone-requires : goal.put_bone-requires
put_bone-requires c = boning_room c.requires c.loop-row.invariant c.loop-row-test.true refl

pub overflow_add-name : goal.overflow_add-name
overflow_add-name c = record {
  fits = omega (arith, boning_small c.requires c.loop-row.invariant c.loop-row-test.true refl c.name_bytes-size.ensures.answer);
}

pub loop-row-preserved : goal.loop-row-preserved
loop-row-preserved c =
    boning_more c.requires c.loop-row.invariant c.loop-row-test.true refl c.name_bytes-size.ensures.answer
    c.pointer.ensures.answer c.put_bone.ensures.bytes

pub returns : goal.returns
returns c = record { bytes = boning_all c.loop-row.invariant c.loop-row-test.false }
