-- Laws of the room that the matrices want: which tests make it and what follows where it is found, and of the tables once they are filled.
-- Assumes nothing.
use Prim.Native.Nat.{ℕ, ◌-◌, ◌*◌, ◌≤◌}
use native.Mathlib.Omega.{arith}
use mathlib.Core.Path.{◌≡◌, refl, sym}
use mathlib.Core.Bool.{true, ◌&&◌}
use mathlib.Core.List.{List, ◌++◌, map}
use lib.ListN.{length, drop}
use lib.Dec.{leb}
use borrow.Rule.Slice.PartMut.{put_mid}
use borrow.Author.Tests.{le-leb, leb-true}
use Rattle.std.proofs.lemmas.Grind.{common_steps}
use Rattle.format.specs.Result.{refused, done}
use Rattle.format.specs.Rows.{bone_width, bone_of, bones_of, laid, cleared}
use Rattle.rows.specs.Row.{bones_got}
use Rattle.rows.proofs.Rows.{length-rows}
use Rattle.tables.specs.Outcome.{derived}
use Rattle.tables.proofs.Outcome.{refuses_part, has_room, enough, both_true}
use Rattle.derive_matrices.specs.Transforming.{matrices_hold, matrices_result, MatrixRoom, MatricesFirst, MatrixRows}

module _ (n bones inverse local : ℕ) where
  pub holds-all : bone_width * n ≤ bones → 16 * n ≤ inverse → 16 * n ≤ local → matrices_hold n bones inverse local ≡ true
  unfolding matrices_hold
  holds-all h k l = rw (le-leb (bone_width * n) bones h, le-leb (16 * n) inverse k, le-leb (16 * n) local l)

-- a table that lacks the rows has no room
pub matrices_short :
    {A : Type 0} (n : ℕ) (t : List ℕ) (i l : ℕ) (a : A) (c : ℕ) → refused c ≡ bones_got n t
    → refused c ≡ derived n (matrices_hold n (length t) i l) a
unfolding matrices_hold bones_got derived
matrices_short n t i l a c e' = refuses_part n (leb (bone_width * n) (length t)) _ a (bones_of n t) c (λ q. rw q refl) e'

-- a table filled in front, and zero behind
laid_front :
    (x t t' u : List ℕ) (m : ℕ) → m ≤ length t → length t' ≡ length t → t' ≡ x ++ drop m t → u ≡ cleared (length t' - m)
    → put_mid m (length t' - m) t' u ≡ laid x (length t)
laid_front x t t' u m h l e f = grind (arith, common_steps)

-- the rows that were found
module _
    (n : ℕ) (t : List ℕ) (rows : List (List ℕ)) (i l : List ℕ)
    (found : done (map bone_of rows) ≡ derived n (matrices_hold n (length t) (length i) (length l)) (bones_of n t)) where
  held : (n ≤ 65535) × (matrices_hold n (length t) (length i) (length l) ≡ true) × (map bone_of rows ≡ bones_of n t)
  held = enough n _ found

  room : (16 * n ≤ length i) × (16 * n ≤ length l)
  unfolding matrices_hold
  room =
      let h = both_true (leb (bone_width * n) (length t) && leb (16 * n) (length i)) _ held.1 in
      let k = both_true (leb (bone_width * n) (length t)) _ h.0 in
      (leb-true _ _ k.1, leb-true _ _ h.1)

  pub matrices_found : MatrixRoom (length rows) i l
  matrices_found = rw (length-rows n t rows held.2) (record { inverse = room.0; local = room.1 })

  pub matrices_done :
      {i' u l' v : List ℕ} → length i' ≡ length i → length l' ≡ length l
      → MatricesFirst (length rows) (map bone_of rows) i i' l l' → u ≡ cleared (length i' - 16 * n) → v ≡ cleared (length l' - 16 * n)
      → MatrixRows (matrices_result n (length t) (length i) (length l)) (bones_of n t) i (put_mid (16 * n) (length i' - 16 * n) i' u) l
      (put_mid (16 * n) (length l' - 16 * n) l' v)
  matrices_done {i'} {u} {l'} {v} ei el f fi fl =
      let g = rw (length-rows n t rows held.2, held.2) at f in
      rw (sym (has_room n _ (tt {0}) held.0 held.1))
      (record {
        inverse = laid_front _ i i' u (16 * n) room.0 ei g.inverse fi;
        local = laid_front _ l l' v (16 * n) room.1 el g.local fl;
      })
