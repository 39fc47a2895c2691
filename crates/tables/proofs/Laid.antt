-- Laws of a table that begins with its rows and is zero behind them: no rows, one word changed, rows added. Assumes nothing.
use Prim.Native.Nat.{ℕ, zero, suc, ◌+◌, ◌-◌, ◌≤◌, ◌<◌}
use native.Mathlib.Omega.{arith}
use native.Mathlib.Nat.{sub-zero}
use mathlib.Core.Path.{◌≡◌, sym, ap, ◌∙◌}
use mathlib.Core.List.{List, [], ◌∷◌, ◌++◌, append-nil, append_assoc}
use lib.ListN.{length, get_or, set, replicate, length-append, length-replicate, get_or-append, replicate-append-replicate}
use lib.Seq.{sets, set-append_left, set-append_seam}
use Rattle.format.specs.Rows.{laid, cleared}

pub laid_none : (n : ℕ) → laid [] n ≡ cleared n
laid_none n = simp sub-zero

-- rows that are zero themselves
pub laid_zeros : (m n : ℕ) → m ≤ n → laid (replicate m 0) n ≡ cleared n
laid_zeros m n h =
    let e : m + (n - m) ≡ n = omega arith in
    simp (length-replicate, replicate-append-replicate, e)

pub length-laid : (w : List ℕ) (n : ℕ) → length w ≤ n → length (laid w n) ≡ n
length-laid w n h = length-append w (replicate (n - length w) 0) ∙ simp length-replicate (omega arith)

pub get_or-laid : (w : List ℕ) (n i : ℕ) → i < length w → get_or (laid w n) i 0 ≡ get_or w i 0
get_or-laid w n i h = get_or-append w (replicate (n - length w) 0) 0 i h

-- one word changed
pub set-laid : (w w' : List ℕ) (n i v : ℕ) → i < length w → set w i v ≡ w' → length w' ≡ length w → set (laid w n) i v ≡ laid w' n
set-laid w w' n i v h e l = set-append_left w (replicate (n - length w) 0) i v h ∙ simp (e, l)

-- rows added: stores at the seam of rows and zeros
sets_seam :
    (vs w : List ℕ) (m : ℕ) → length vs ≤ m → sets (w ++ replicate m 0) (length w) vs ≡ (w ++ vs) ++ replicate (m - length vs) 0
sets_seam [] w m h = simp (append-nil, sub-zero)
sets_seam (v ∷ vs) w zero h = absurd (omega arith)
sets_seam (v ∷ vs) w (suc m) h =
    let e : length (w ++ (v ∷ [])) ≡ suc (length w) = simp (length-append) (omega arith) in
    let k : suc m - suc (length vs) ≡ m - length vs = omega arith in
    let f : set (w ++ 0 ∷ replicate m 0) (length w) v ≡ (w ++ (v ∷ [])) ++ replicate m 0 =
    set-append_seam w 0 (replicate m 0) v ∙ simp append_assoc in
    simp (f, sym e) (sets_seam vs (w ++ (v ∷ [])) m (omega arith) ∙ simp (append_assoc, k))

pub sets-laid : (vs w : List ℕ) (n at : ℕ) → length w ≡ at → at + length vs ≤ n → sets (laid w n) at vs ≡ laid (w ++ vs) n
sets-laid vs w n at e h =
    let k : n - length w - length vs ≡ n - (length w + length vs) = omega arith in
    simp (sym e, sets_seam vs w (n - length w) (omega arith), length-append, k)

-- ---- tables that were cleared

module _ (t : List ℕ) {t'' : List ℕ} (z : t'' ≡ cleared (length t)) where
  pub length-cleared : length t'' ≡ length t
  length-cleared = ap length z ∙ length-replicate (length t) 0
