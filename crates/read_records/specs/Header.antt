-- The header of a skeleton as the code has it, and the format's header that it stands for (docs/FORMAT.md, "Records").
-- Definitions only.
use Rattle.std.specs.Prelude.{ℕ, List}
use Rattle.format.specs.Field.{field_at}
use Rattle.format.specs.Bone.{words4}
use Rattle.format.specs.Records as format
use Rattle.format.specs.Words.{meant_words4}
use Rattle.read_records.specs.declared.header.Header.{Header}

-- the fields of bytes of any number
unfoldable pub header_in : List ℕ → format.Header
header_in b =
    record {
      kind = field_at 4 b 0;
      buckets_at = field_at 8 b 16;
      bucket_count = field_at 2 b 24;
      free = words4 (field_at 4 b 28) (field_at 4 b 80) (field_at 4 b 84) (field_at 4 b 88);
      bones_at = field_at 8 b 32;
      inverse_at = field_at 8 b 40;
      local_at = field_at 8 b 48;
      parents_at = field_at 8 b 56;
      children_at = field_at 8 b 64;
      bone_count = field_at 2 b 94;
      child_count = field_at 2 b 96;
    }

abbrev pub meant_header : Header → format.Header
meant_header h =
    record {
      kind = h.kind;
      buckets_at = h.buckets_at;
      bucket_count = h.bucket_count;
      free = meant_words4 h.free;
      bones_at = h.bones_at;
      inverse_at = h.inverse_at;
      local_at = h.local_at;
      parents_at = h.parents_at;
      children_at = h.children_at;
      bone_count = h.bone_count;
      child_count = h.child_count;
    }
