-- The structs of the code and the records of `format` that they stand for: `our..` from the format, `meant..` to it.
-- Definitions only.
use Rattle.std.specs.Prelude.{Option, None, Some}
use Rattle.math.specs.Word.{float_of}
use Rattle.math.specs.Vector.{vec3, vec4}
use Rattle.math.specs.declared.Vec3.{Vec3}
use Rattle.math.specs.declared.Vec4.{Vec4}
use Rattle.format.specs.Section as section
use Rattle.format.specs.Bone as format
use Rattle.format.specs.Rows.{place_of}
use Rattle.format.specs.Words.{our_words3, our_words4, meant_words3, meant_words4}
use Rattle.format.specs.declared.Place.{Place}
use Rattle.rows.specs.declared.Bone.{Bone}

-- ---- from the format

-- no name is address 0 and size 0
abbrev pub our_place : Option section.Place → Place
our_place None = record { address = 0; size = 0 }
our_place (Some p) = record { address = p.address; size = p.size }

unfoldable pub our_bone : format.Bone section.Place → Bone
our_bone b =
    record {
      rotation = our_words4 b.rotation;
      translation = our_words3 b.translation;
      scale = our_words3 b.scale;
      next_sibling = b.next_sibling;
      parent = b.parent;
      name = our_place b.name;
      flags = b.flags;
      index = b.index;
      tag = b.tag;
      kept = our_words4 b.kept;
    }

-- ---- to the format

unfoldable pub meant_bone : Bone → format.Bone section.Place
meant_bone b =
    record {
      rotation = meant_words4 b.rotation;
      translation = meant_words3 b.translation;
      scale = meant_words3 b.scale;
      next_sibling = b.next_sibling;
      parent = b.parent;
      name = place_of b.name.address b.name.size;
      flags = b.flags;
      index = b.index;
      tag = b.tag;
      kept = meant_words4 b.kept;
    }

-- ---- words as floats

abbrev pub vec3_of : format.Words3 → Vec3
vec3_of v = vec3 (float_of v.x) (float_of v.y) (float_of v.z)

abbrev pub vec4_of : format.Words4 → Vec4
vec4_of v = vec4 (float_of v.x) (float_of v.y) (float_of v.z) (float_of v.w)
