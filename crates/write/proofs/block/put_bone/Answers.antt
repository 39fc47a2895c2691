-- `write::block::put_bone` meets its contract. Assumes nothing.
use Prim.Native.Nat.{◌^◌, ◌<◌}
use native.Mathlib.Omega.{arith}
use Rattle.write.proofs.Bones.{stored-bone}
use Rattle.write.proofs.block.put_bone.Goals as goal

pub returns : goal.returns
returns c =
    let h : c.args.name < 2 ^ 32 = omega arith in
    record { bytes = stored-bone _ _ _ _ h c.bone_record.ensures.answer c.put_run.ensures.bytes }
