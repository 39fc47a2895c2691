-- The parts of a section as they are placed: the numbers that they follow from, and the words of the skeleton's record.
-- Definitions only.
use Rattle.std.specs.Prelude.{ℕ, ◌+◌, ◌*◌, ◌≤◌, min, List, [], ◌∷◌}
use Rattle.format.specs.Section.{window}
use Rattle.format.specs.Bone.{Words4}
use Rattle.format.specs.Layout as Layout
use Rattle.format.specs.Layout.{base, pointer}
use Rattle.write.specs.declared.starts.Starts.{Starts}

-- at most 65,535 bones and their entries, as many buckets, and names of 256 bytes each
pub record Counts (buckets entries n names : ℕ) : Type 0 where
  pub buckets_few : buckets ≤ 65535
  pub entries_few : entries ≤ 65535
  pub few : n ≤ 65535
  pub names_few : names ≤ 256 * 65535

-- ---- the code's structs as the format's

abbrev pub meant_starts : Starts → Layout.Starts
meant_starts s =
    record {
      buckets = s.buckets;
      entries = s.entries;
      bones = s.bones;
      names = s.names;
      inverse = s.inverse;
      local = s.local;
      parents = s.parents;
      children = s.children;
    }

-- ---- the skeleton's record

-- the counts have 16 bits, and the addresses of the parts 32
pub record SkeletonCounts (at : Layout.Starts) (n c k : ℕ) : Type 0 where
  pub few : n ≤ 65535
  pub buckets_few : c ≤ 65535
  pub kids_few : k ≤ 65535
  pub buckets : at.buckets ≤ window
  pub bones : at.bones + 16 ≤ window
  pub inverse : at.inverse ≤ window
  pub local : at.local ≤ window
  pub parents : at.parents ≤ window
  pub children : at.children ≤ window

unfoldable pub skeleton_words : Layout.Starts → Words4 → ℕ → ℕ → ℕ → List ℕ
skeleton_words at free n c k =
    1080114336 ∷ 1 ∷ 0 ∷ 0 ∷ pointer (base + at.buckets) c ∷ 0 ∷ (c + 65536 * min n c) ∷ free.x ∷
    pointer (base + (at.bones + 16)) n ∷ 0 ∷ pointer (base + at.inverse) n ∷ 0 ∷ pointer (base + at.local) n ∷ 0 ∷
    pointer (base + at.parents) n ∷ 0 ∷ pointer (base + at.children) k ∷ 0 ∷ 0 ∷ 0 ∷
    free.y ∷ free.z ∷ free.w ∷ (1 + 65536 * n) ∷ k ∷ 0 ∷ 0 ∷ 0 ∷ []
