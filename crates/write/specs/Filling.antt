-- What the stages that fill a section ask for and leave. Definitions only.
use Rattle.std.specs.Prelude.{◌≡◌, true, ℕ, ◌+◌, ◌*◌, ◌≤◌, length, map}
use mathlib.Core.List.{List, flat_map}
use Rattle.std.proofs.lemmas.List.Edits.{sets}
use Rattle.format.specs.Field.{word_bytes}
use Rattle.format.specs.Section.{Section, Place}
use Rattle.format.specs.Bone.{Bone}
use Rattle.format.specs.Chains.{bucket_count, entry_count}
use Rattle.format.specs.Children as Children
use Rattle.format.specs.Matrices.{inverses, locals}
use Rattle.format.specs.Deriving.{tags, parents, indices}
use Rattle.derive_chains.specs.ChainRows.{bucket_rows, entry_rows}
use Rattle.format.specs.Rows.{entry_words, laid, bone_of}
use Rattle.format.specs.Layout.{base, after, pad16, all_names, Starts, starts}
use Rattle.format.specs.Write.{good_names, named}
use Rattle.tables.specs.Working.{Working}
use Rattle.write.specs.Records.{takes_all, block, BlockRoom}
use Rattle.write.specs.declared.filling.Sizes.{Sizes}

-- the names of some bones, `count` bytes, with their fill
pub record NamesPart (lent : Section) (bones : List (Bone Place)) (at count size : ℕ) : Type 0 where
  pub counts : count ≡ length (all_names (named lent bones))
  pub room : after at count ≤ size

pub record BonesPart (at : Starts) (lent : Section) (rows : List (List ℕ)) (count size : ℕ) : Type 0 where
  pub block : BlockRoom rows at.bones at.names size
  pub names : NamesPart lent (map bone_of rows) at.names count size

-- the bones block and the names stored
abbrev pub bones_stored : Starts → Section → List (Bone Place) → List ℕ → List ℕ
bones_stored at lent bones d =
    sets (sets d at.bones (block (base + at.names) bones)) at.names (pad16 (all_names (named lent bones)))

pub record ListsRoom (at : Starts) (inverse local parents children : List ℕ) (size : ℕ) : Type 0 where
  pub inverse_room : at.inverse + 4 * length inverse ≤ size
  pub local_room : at.local + 4 * length local ≤ size
  pub parent_room : after at.parents (2 * length parents) ≤ size
  pub child_room : after at.children (2 * length children) ≤ size

-- the four lists stored
abbrev pub lists_stored : Starts → List ℕ → List ℕ → List ℕ → List ℕ → List ℕ → List ℕ
lists_stored at inverse local parents children d =
    sets
    (sets (sets (sets d at.inverse (word_bytes 4 inverse)) at.local (word_bytes 4 local)) at.parents (pad16 (word_bytes 2
    parents)))
    at.children (pad16 (word_bytes 2 children))

-- the child entries of some bones
abbrev pub kids_of : List (Bone Place) → List ℕ
kids_of bones = Children.children (indices bones) (parents bones)

-- the tables hold what follows from some bones
pub record DerivedRows (bones : List (Bone Place)) (x : Working) : Type 0 where
  pub heads_hold : bucket_count (length bones) ≤ length x.buckets
  pub heads_are : x.buckets ≡ laid (bucket_rows (tags bones)) (length x.buckets)
  pub rows_hold : 3 * entry_count (length bones) ≤ length x.entries
  pub rows_are : x.entries ≡ laid (flat_map entry_words (entry_rows (tags bones))) (length x.entries)
  pub inverse_holds : 16 * length bones ≤ length x.inverse
  pub inverse_is : x.inverse ≡ laid (inverses bones) (length x.inverse)
  pub local_holds : 16 * length bones ≤ length x.local
  pub local_is : x.local ≡ laid (locals bones) (length x.local)
  pub parents_hold : length bones ≤ length x.parents
  pub parents_are : x.parents ≡ laid (parents bones) (length x.parents)
  pub children_hold : length (kids_of bones) ≤ length x.children
  pub children_are : x.children ≡ laid (kids_of bones) (length x.children)

-- good names, and the tables derived from the bones
pub record Held (s : Sizes) (lent : Section) (bones : List (Bone Place)) (x : Working) : Type 0 where
  pub few : length bones ≤ 65535
  pub good : good_names lent bones ≡ true
  pub buckets_is : s.buckets ≡ bucket_count (length bones)
  pub children_is : s.children ≡ length (kids_of bones)
  pub names_is : s.names ≡ takes_all bones
  pub rows : DerivedRows bones x

-- The parts are placed, and the buffer has room.
pub record PartsPlaced (at : Starts) (s : Sizes) (lent : Section) (rows : List (List ℕ)) (x : Working) (size : ℕ) : Type 0 where
  pub held : Held s lent (map bone_of rows) x
  pub kids_few : s.children ≤ 65535
  pub placed :
      at ≡ starts (bucket_count (length rows)) (entry_count (length rows)) (length rows) (takes_all (map bone_of rows))
  pub fits : after at.children (2 * s.children) ≤ size
