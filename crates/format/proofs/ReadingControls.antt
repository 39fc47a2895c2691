-- The controls of reading, each proved by computation. Assumes nothing.
use mathlib.Core.Path.{refl}
use Rattle.format.specs.ReadingControls.{ReadingControls}
use Rattle.format.proofs.Computing.{everything}

pub reading_controls : ReadingControls
unfolding everything
reading_controls =
    record {
      graphics_half = refl;
      graphics_second = refl;
      name_at_end = refl;
      long_name = refl;
      name_outside = refl;
      pointers_of64_bits = refl;
      counts_of16_bits = refl;
      fields_of16_bits = refl;
      skeleton_read = refl;
      shared_name = refl;
      bone_at_entry = refl;
      later_replaces = refl;
      block_at_entry = refl;
      parents_at_inverse = refl;
      both_at_block = refl;
      parents_at_name = refl;
      no_local = refl;
      second_index = refl;
      kind_word = refl;
      constant_at44 = refl;
      block_count = refl;
      bone70 = refl;
      bone69 = refl;
      entry16 = refl;
      entry15 = refl;
      empty_block = refl;
      block_past_end = refl;
      buckets_past_end = refl;
      name_before_row = refl;
      chain_before_bucket = refl;
      entry_before_row = refl;
      bytes_before_rows = refl;
      no_bone_row = refl;
      no_inverse_row = refl;
      pool_full = refl;
      pool_holds = refl;
      self_link = refl;
      buckets_before13 = refl;
      bones_before_inverse = refl;
      inverse_before_local = refl;
      local_before_parents = refl;
      name_at_root = refl;
      name_at_block = refl;
      link_at_buckets = refl;
      matrices_without_bones = refl;
      root_zero = refl;
    }
