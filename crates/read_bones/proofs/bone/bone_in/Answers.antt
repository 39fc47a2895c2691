-- `read_bones::bone::bone_in` meets its contract. Assumes nothing.
use Rattle.rows.specs.Value.{meant_bone}
use Rattle.read_bones.specs.Bones.{bone_fields}
use Rattle.read_bones.proofs.bone.bone_in.Goals as goal

pub returns : goal.returns
unfolding bone_fields meant_bone
returns c = cc
