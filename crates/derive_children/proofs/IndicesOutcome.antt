-- Laws of the stages of `build_indices`, and of the room that it needs. Assumes nothing.
use Prim.Native.Nat.{ℕ, ◌+◌, ◌*◌, ◌-◌, ◌≤◌}
use mathlib.Core.Path.{◌≡◌, refl, sym, ap, ◌∙◌}
use mathlib.Core.List.{List, map}
use lib.ListN.{length, take, replicate}
use lib.Seq.{take_at}
use lib.Dec.{leb}
use borrow.Author.Tests.{le-leb, leb-true}
use Rattle.format.specs.Section.{Place}
use Rattle.format.specs.Bone.{Bone}
use Rattle.std.specs.Prelude.{Ok}
use Rattle.format.specs.Result.{refused, done}
use Rattle.format.specs.Children.{children}
use Rattle.format.specs.Deriving.{parents}
use Rattle.format.specs.Rows.{bone_width, bone_of, bones_of, cleared, laid}
use Rattle.rows.proofs.Rows.{length_column, length-rows}
use Rattle.rows.specs.Row.{bones_got}
use Rattle.tables.specs.Outcome.{derived}
use Rattle.tables.proofs.Outcome.{refuses_part, has_room, enough, both_true}
use Rattle.derive_children.specs.Pile.{Listing}
use Rattle.derive_children.specs.Indexing.{indices_hold, parents_of, children_of, Indexing, indices_of}
use Rattle.tables.proofs.Laid.{length-cleared}
use mathlib.Core.Bool.{true, ◌&&◌}
use Rattle.tables.proofs.Rooms.{Enough}

-- ---- stages

length-parents : (n : ℕ) (t : List ℕ) → length (parents_of n t) ≡ n
length-parents n t = length_column (λ (b : Bone Place). b.parent) n t

-- the front of the parents' table is the parents list
module _ (n : ℕ) (t : List ℕ) (m : ℕ) {ps : List ℕ} (e : ps ≡ laid (parents_of n t) m) where
  pub parents-front : take n ps ≡ parents_of n t
  parents-front = rw e (take_at (parents_of n t) (replicate (m - length (parents_of n t)) 0) n (length-parents n t))

  pub length_front : length (take n ps) ≡ n
  length_front = ap length parents-front ∙ length-parents n t

-- a table that lacks the rows has no room
pub indices_short :
    {A : Type 0} (n : ℕ) (t : List ℕ) (p k q : ℕ) (a : A) (c : ℕ) → refused c ≡ bones_got n t
    → refused c ≡ derived n (indices_hold n (length t) p k q) a
unfolding indices_hold bones_got derived
indices_short n t p k q a c e' = refuses_part n (leb (bone_width * n) (length t)) _ a (bones_of n t) c (λ q. rw q refl) e'

-- ---- both lists derived

module _ (n : ℕ) (t ps cs pending : List ℕ) (rows : List (List ℕ))
    (told : done (map bone_of rows) ≡ derived n (indices_hold n (length t) (length ps) (length cs) (length pending)) (bones_of n t)) where
  held :
      (n ≤ 65535) × (indices_hold n (length t) (length ps) (length cs) (length pending) ≡ true) × (map bone_of rows ≡ bones_of n t)
  held = enough n _ told

  rows_number : length rows ≡ n
  rows_number = length-rows n t rows held.2

  room : n ≤ length ps
  unfolding indices_hold
  room =
      let h = both_true (leb (bone_width * n) (length t) && leb n (length ps) && leb (8 * (n + 1)) (length cs)) _ held.1 in
      let k = both_true (leb (bone_width * n) (length t) && leb n (length ps)) _ h.0 in
      leb-true _ _ (both_true (leb (bone_width * n) (length t)) _ k.0).1

  -- the parents' table has room
  pub parents_room : {ps₁ : List ℕ} → ps₁ ≡ cleared (length ps) → (length rows ≤ length ps₁) × (ps₁ ≡ cleared (length ps₁))
  parents_room zp = let l = length-cleared ps zp in rw (rows_number, l) (room, zp)

  module _ {ps₁ ps' : List ℕ} (zp : ps₁ ≡ cleared (length ps)) (ep : ps' ≡ laid (parents (map bone_of rows)) (length ps₁)) where
    ep' : ps' ≡ laid (parents_of n t) (length ps₁)
    ep' = rw held.2 at ep

    -- a parent for each row
    pub each_parent : length rows ≡ length (take n ps')
    each_parent = rows_number ∙ sym (length_front n t (length ps₁) ep')

    pub indices-done :
        {count : ℕ} {cs₁ cs' : List ℕ} → cs₁ ≡ cleared (length cs)
        → Listing (children (indices_of rows) (take n ps')) count cs₁ cs' → Indexing n t ps cs pending (Ok count) ps' cs'
    indices-done {count} {cs₁} {cs'} zc list =
        let h = indices_hold n (length t) (length ps) (length cs) (length pending) in
        let e = has_room n h (length (children_of n t)) held.0 held.1 in
        let fp = parents-front n t (length ps₁) ep' in
        let l : Listing (children_of n t) count cs₁ cs' = rw (held.2, fp) at list in
        let lp : length ps₁ ≡ length ps = length-cleared ps zp in
        let lc : length cs₁ ≡ length cs = length-cleared cs zc in
        record {
          answer = ap done l.count ∙ e;
          parents_left = rw (← e, ← lp) ep';
          children_left = rw (← e, ← lc) l.table;
        }

-- ---- the working tables

-- tables of these sizes, and a table of bones of t words, have room
module _ (n b e i l p c q : ℕ) where
  pub enough_indices : (t : ℕ) → bone_width * n ≤ t → Enough n b e i l p c q → indices_hold n t p c q ≡ true
  unfolding indices_hold
  enough_indices t r h =
      rw (
        le-leb (bone_width * n) t r,
        le-leb n p h.parents,
        le-leb (8 * (n + 1)) c h.children,
        le-leb (2 * (4 * (n + 1))) q h.pending,
      )
