-- `build_bone_tags`: its sizes, its answer, and its tables while positions are entered. Definitions only.
use Rattle.std.specs.Prelude.{ℕ, suc, ◌*◌, ◌%◌, ◌≤◌, ◌≡◌, Bool, ◌&&◌, length, get_or, set, leb}
use mathlib.Core.List.{List, map, flat_map}
use Rattle.std.proofs.lemmas.List.Edits.{sets}
use Rattle.format.specs.Result.{Res}
use Rattle.format.specs.Chains.{bucket_count, entry_count, up_from}
use Rattle.format.specs.Deriving.{EntryRow, entry_row}
use Rattle.derive_chains.specs.ChainRows.{link_below, bucket_rows, entry_rows}
use Rattle.format.specs.Rows.{bone_width, entry_words, laid, cleared}
use Rattle.tables.specs.Outcome.{derived}
use Rattle.derive_chains.specs.declared.tags.TagEntry.{TagEntry}

-- ---- sizes and answer

-- whether tables of so many words hold n bones, their buckets and their entries
unfoldable pub tags_hold : ℕ → ℕ → ℕ → ℕ → Bool
tags_hold n bones buckets entries =
    leb (bone_width * n) bones && leb (bucket_count n) buckets && leb (3 * entry_count n) entries

-- the number of buckets, by the tables' words
abbrev pub tags_result : ℕ → ℕ → ℕ → ℕ → Res ℕ
tags_result n bones buckets entries = derived n (tags_hold n bones buckets entries) (bucket_count n)

-- ---- positions entered

-- the row that the code's entry stands for
abbrev pub meant_entry : TagEntry → EntryRow
meant_entry e = entry_row e.tag e.position e.link

-- the bucket and entry rows of the positions below p, in c buckets
unfoldable pub buckets_below : List ℕ → ℕ → ℕ → List ℕ
buckets_below tags c p = map (λ b. link_below tags c b p) (up_from 0 c)

unfoldable pub entries_below : List ℕ → ℕ → ℕ → List EntryRow
entries_below tags c p = map (λ q. entry_row (get_or tags q 0) q (link_below tags c (get_or tags q 0 % c) q)) (up_from 0 p)

-- position p entered: its entry leads to what its bucket led to, and the bucket to it
pub record TagEntered (tag p : ℕ) (buckets entries buckets' entries' : List ℕ) : Type 0 where
  pub bucket : buckets' ≡ set buckets (tag % length buckets) (suc p)
  pub entry : entries' ≡ sets entries (3 * p) (entry_words (entry_row tag p (get_or buckets (tag % length buckets) 0)))

-- the tables are zero, with a word for each bucket of n bones, and room for their entries
pub record TagsRoom (n : ℕ) (buckets entries : List ℕ) : Type 0 where
  pub few : n ≤ 65535
  pub counted : length buckets ≡ bucket_count n
  pub entry_room : 3 * entry_count n ≤ length entries
  pub buckets_zero : buckets ≡ cleared (length buckets)
  pub entries_zero : entries ≡ cleared (length entries)

-- the tables hold the chains
pub record Linked (tags buckets entries buckets' entries' : List ℕ) : Type 0 where
  pub heads : buckets' ≡ laid (bucket_rows tags) (length buckets)
  pub rows : entries' ≡ laid (flat_map entry_words (entry_rows tags)) (length entries)
