-- The bones of a table row by row: the p-th of the first n bones is the bone in row p; and the table cut into its rows. Assumes nothing.
use Prim.Native.Nat.{ℕ, zero, suc, ◌+◌, ◌*◌, ◌/◌, ◌≤◌, ◌<◌}
use native.Mathlib.Omega.{arith}
use mathlib.Core.Path.{◌≡◌, refl, sym, ap, ◌∙◌}
use mathlib.Core.Bool.{Bool, true, false}
use mathlib.Core.List.{List, map}
use lib.ListN.{length, get_or, take, drop, length-map}
use lib.Seq.{drop-drop, get_or-take}
use lib.Dec.{leb}
use borrow.Author.Tests.{le-leb, lt-leb, leb-true}
use Rattle.std.specs.Simd.{first_chunks}
use Rattle.format.specs.Result.{refused, done, need, ◌>>=◌}
use Rattle.format.specs.Section.{Place}
use Rattle.format.specs.Bone.{Bone}
use Rattle.format.specs.Rows.{bone_width, bone_of, bones_of}
use Rattle.rows.specs.Row.{row_at, bones_got}

-- row p of what follows the first row is row p + 1
pub row_at-suc : (t : List ℕ) (p : ℕ) → row_at (drop bone_width t) p ≡ row_at t (suc p)
row_at-suc t p =
    let e : bone_width + bone_width * p ≡ bone_width * suc p = omega arith in
    ap bone_of (drop-drop (bone_width * p) bone_width t ∙ ap (λ (k : ℕ). drop k t) e)

pub length-bones_of : (n : ℕ) (t : List ℕ) → length (bones_of n t) ≡ n
unfolding bones_of
length-bones_of zero t = refl
length-bones_of (suc n) t = ap suc (length-bones_of n (drop bone_width t))

module _ {A : Type 0} (f : Bone Place → A) where
  -- a column of the bones, at a position
  pub get_or_column : (d : A) (n p : ℕ) (t : List ℕ) → p < n → get_or (map f (bones_of n t)) p d ≡ f (row_at t p)
  unfolding bones_of
  get_or_column d zero p t h = absurd (omega arith)
  get_or_column d (suc n) zero t h = refl
  get_or_column d (suc n) (suc p) t h = get_or_column d n p (drop bone_width t) (omega arith) ∙ ap f (row_at-suc t p)

  pub length_column : (n : ℕ) (t : List ℕ) → length (map f (bones_of n t)) ≡ n
  length_column n t = length-map (bones_of n t) f ∙ length-bones_of n t

-- ---- the table cut into rows

-- the bone of a row is that of its 21 words
bone_words-first : (w : List ℕ) → bone_of (take 21 w) ≡ bone_of w
unfolding bone_of
bone_words-first w =
    rw (
      get_or-take 21 w 0 0 (omega arith),
      get_or-take 21 w 1 0 (omega arith),
      get_or-take 21 w 2 0 (omega arith),
      get_or-take 21 w 3 0 (omega arith),
      get_or-take 21 w 4 0 (omega arith),
      get_or-take 21 w 5 0 (omega arith),
      get_or-take 21 w 6 0 (omega arith),
      get_or-take 21 w 7 0 (omega arith),
      get_or-take 21 w 8 0 (omega arith),
      get_or-take 21 w 9 0 (omega arith),
      get_or-take 21 w 10 0 (omega arith),
      get_or-take 21 w 11 0 (omega arith),
      get_or-take 21 w 12 0 (omega arith),
      get_or-take 21 w 13 0 (omega arith),
      get_or-take 21 w 14 0 (omega arith),
      get_or-take 21 w 15 0 (omega arith),
      get_or-take 21 w 16 0 (omega arith),
      get_or-take 21 w 17 0 (omega arith),
      get_or-take 21 w 18 0 (omega arith),
      get_or-take 21 w 19 0 (omega arith),
      get_or-take 21 w 20 0 (omega arith),
    )

-- the first n of its m rows
rows_cut : (n m : ℕ) (t : List ℕ) → n ≤ m → map bone_of (take n (first_chunks 21 m t)) ≡ bones_of n t
unfolding bones_of
rows_cut zero m t h = refl
rows_cut (suc n) zero t h = absurd (omega arith)
rows_cut (suc n) (suc m) t h = rw (bone_words-first t, rows_cut n m (drop 21 t) (omega arith))

module _ (n : ℕ) (t : List ℕ) where
  pub rows_many : 65535 < n → refused 2 ≡ bones_got n t
  unfolding bones_got
  rows_many h = rw (lt-leb n 65535 h)

  pub rows_short : n ≤ 65535 → length t / bone_width < n → refused 1 ≡ bones_got n t
  unfolding bones_got
  rows_short h k = rw (le-leb n 65535 h, lt-leb (bone_width * n) (length t) (omega arith))

  pub rows_first :
      n ≤ 65535 → n ≤ length t / bone_width → done (map bone_of (take n (first_chunks 21 (length t / 21) t))) ≡ bones_got n t
  unfolding bones_got
  rows_first h k =
      rw (le-leb n 65535 h, le-leb (bone_width * n) (length t) (omega arith), rows_cut n (length t / 21) t k)

-- rows with the bones of the first n are n
pub length-rows : (n : ℕ) (t : List ℕ) (rows : List (List ℕ)) → map bone_of rows ≡ bones_of n t → length rows ≡ n
length-rows n t rows e = sym (length-map rows bone_of) ∙ ap length e ∙ length-bones_of n t

-- what the rows that a table gives tell
pub got_bones :
    (n : ℕ) (t : List ℕ) {bs : List (Bone Place)} → done bs ≡ bones_got n t
    → (n ≤ 65535) × (leb (bone_width * n) (length t) ≡ true) × (bs ≡ bones_of n t)
unfolding bones_got
got_bones n t {bs} e =
    let g = by (leb n 65535) (leb (bone_width * n) (length t)) e in
    (leb-true n 65535 g.0, g.1, g.2)
  where
    by :
        (x y : Bool) → done bs ≡ (need 2 x >>= λ u. need 1 y >>= λ v. done (bones_of n t)) → (x ≡ true) × (y ≡ true) × (bs ≡ bones_of n t)
    by true true f = (refl, refl, cc)
    by true false f = let z : ◌≡◌ {A = ℕ} 0 1 = cc in absurd (omega arith)
    by false y f = let z : ◌≡◌ {A = ℕ} 0 1 = cc in absurd (omega arith)
