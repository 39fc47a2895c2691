-- The skeleton check (docs/FORMAT.md, "Lookup and check"). Definitions only.
use Rattle.std.specs.Prelude.{ℕ, zero, suc, Bool, true, false, ◌&&◌, List, [], ◌∷◌, length, get_or, take, drop, eqb}
use Rattle.std.specs.Prelude.{Option, None, Some}
use Rattle.format.specs.Result.{Res, done, ◌>>=◌, need}
use Rattle.format.specs.Section.{Section, Place}
use Rattle.format.specs.Bone.{Bone}
use Rattle.format.specs.Chains.{Entry, entry_of, chains}
use Rattle.format.specs.Children.{children}
use Rattle.format.specs.Matrices.{inverses, locals, bone_at}
use Rattle.format.specs.Deriving.{tags, parents, indices, DeriveRoom, derives, EntryRow, entry_row}
use Rattle.format.specs.Tables.{ListTable, inverse_table, local_table, parents_table, children_table}
use Rattle.format.specs.Tables.{Rows, SkeletonRow, Tables, no_rows, Room, list_at}
use Rattle.format.specs.Read.{read_skeleton}

-- ---- the lists that reading gives; an absent list is an empty one

abbrev pub list_read : ListTable → Option Rows → Tables → List ℕ
list_read l None t = []
list_read l (Some r) t = list_at l r t

abbrev pub add_some : {A : Type 0} → Option A → List A → List A
add_some None l = l
add_some (Some x) l = x ∷ l

-- the bones of some rows
unfoldable pub gather : List (Bone Place) → List ℕ → List (Bone Place)
gather bs [] = []
gather bs (r ∷ rs) = add_some (bone_at bs r) (gather bs rs)

abbrev pub bones_read : Option Rows → Tables → List (Bone Place)
bones_read None t = []
bones_read (Some r) t = gather t.bones (take r.count (drop r.first t.members))

-- an element put in front of a list, where both stand
abbrev pub onto : {A : Type 0} → Option A → Option (List A) → Option (List A)
onto None l = None
onto (Some x) None = None
onto (Some x) (Some l) = Some (x ∷ l)

abbrev pub no_entry : EntryRow
no_entry = entry_row 0 0 0

-- The chain from a link: the tags and positions met along its links until 0, shared entries included. `left` is the number of bones
-- read: a chain with more entries, a circular one among them, is none, and no derived chain has more.
unfoldable pub chain_along : List EntryRow → ℕ → ℕ → Option (List Entry)
chain_along es zero zero = Some []
chain_along es zero (suc r) = None
chain_along es (suc left) zero = Some []
chain_along es (suc left) (suc r) =
    let e = get_or es r no_entry in
    onto (Some (entry_of e.tag e.position)) (chain_along es left e.link)

-- the chains of some buckets, or none where one is too long
unfoldable pub chains_along : List EntryRow → ℕ → List ℕ → Option (List (List Entry))
chains_along es n [] = Some []
chains_along es n (l ∷ ls) = onto (chain_along es n l) (chains_along es n ls)

abbrev pub chains_read : ℕ → Option Rows → Tables → Option (List (List Entry))
chains_read n None t = Some []
chains_read n (Some r) t = chains_along t.chained.entries n (take r.count (drop r.first t.chained.buckets))

-- ---- comparing lists

unfoldable pub same_list : {A : Type 0} → (A → A → Bool) → List A → List A → Bool
same_list f [] [] = true
same_list f [] (y ∷ ys) = false
same_list f (x ∷ xs) [] = false
same_list f (x ∷ xs) (y ∷ ys) = f x y && same_list f xs ys

abbrev pub same_entry : Entry → Entry → Bool
same_entry a b = eqb a.tag b.tag && eqb a.position b.position

abbrev pub same_words : List ℕ → List ℕ → Bool
same_words = same_list eqb

abbrev pub same_chains : Option (List (List Entry)) → List (List Entry) → Bool
same_chains None d = false
same_chains (Some c) d = same_list (same_list same_entry) c d

-- ---- the check

-- what the check compares: the bones read, and the lists read
pub record Read : Type 0 where
  pub bones : List (Bone Place)
  pub chains : Option (List (List Entry))
  pub parents : List ℕ
  pub children : List ℕ
  pub inverse : List ℕ
  pub local : List ℕ

abbrev pub read_of : SkeletonRow → Tables → Read
read_of s t =
    record {
      bones = bones_read s.bones t;
      chains = chains_read (length (bones_read s.bones t)) s.buckets t;
      parents = list_read parents_table s.parents t;
      children = list_read children_table s.children t;
      inverse = list_read inverse_table s.inverse t;
      local = list_read local_table s.local t;
    }

-- The verdict on what was read: the bone count, or a refusal, in order deriving's 1, then 21 to 25. Chains and lists are compared
-- word by word with those derived from the bones read.
unfoldable pub verdict : DeriveRoom → Read → Res ℕ
verdict room r = do
  u1 ← need 1 (derives room (length r.bones))
  u21 ← need 21 (same_chains r.chains (chains (tags r.bones)))
  u22 ← need 22 (same_words r.parents (parents r.bones))
  u23 ← need 23 (same_words r.children (children (indices r.bones) (parents r.bones)))
  u24 ← need 24 (same_words r.inverse (inverses r.bones))
  u25 ← need 25 (same_words r.local (locals r.bones))
  done (length r.bones)

abbrev pub read_from : Option SkeletonRow → Tables → Option Read
read_from None t = None
read_from (Some s) t = Some (read_of s t)

-- A section read by itself, with an empty pool: what was read, none for root 0.
unfoldable pub read : Section → Room → ℕ → Res (Option Read)
read sec room root = do
  (s, t) ← read_skeleton sec room root no_rows
  done (read_from s t)

unfoldable pub check_from : DeriveRoom → Option Read → Res (Option ℕ)
check_from droom None = done None
check_from droom (Some r) = do
  n ← verdict droom r
  done (Some n)

-- The bone count of an accepted section, none for root 0. Refusals: reading's, deriving's 1, 21 to 25.
unfoldable pub check : Section → Room → DeriveRoom → ℕ → Res (Option ℕ)
check sec room droom root = do
  r ← read sec room root
  check_from droom r
