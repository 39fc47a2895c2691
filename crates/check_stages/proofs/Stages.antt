-- The stages put together: what a call that derives gave and left, and the judgement behind it.
-- Assumes nothing.
use mathlib.Core.Path.{◌≡◌, refl, sym, ap, ◌∙◌}
use mathlib.Core.Bool.{Bool, true, false}
use Rattle.std.specs.Prelude.{Option, None, Some}
use mathlib.Core.List.{List, flat_map}
use Prim.Native.Nat.{ℕ, ◌-◌, ◌*◌, ◌≤◌}
use native.Mathlib.Omega.{arith}
use borrow.Author.Tests.{leb-true}
use lib.ListN.{length, take, replicate}
use lib.Seq.{take_at}
use lib.Dec.{leb}
use Rattle.format.specs.Result.{Res, refused, done, ◌>>=◌, need}
use Rattle.format.specs.Chains.{bucket_count, Entry, chains}
use Rattle.format.specs.Deriving.{tags}
use Rattle.derive_chains.specs.ChainRows.{bucket_rows, entry_rows}
use Rattle.format.specs.Matrices.{inverses, locals, inverse_of, local_of}
use Rattle.format.specs.Rows.{entry_words, laid, bones_of}
use Rattle.format.specs.Check.{same_list, same_entry, same_words, same_chains, chains_along}
use Rattle.tables.specs.Outcome.{derived, leaves}
use Rattle.rows.proofs.Rows.{length_column}
use Rattle.derive_chains.specs.Tagging.{tags_hold, tags_result}
use Rattle.derive_children.specs.Indexing.{indices_hold, indices_result, parents_of, children_of}
use Rattle.derive_matrices.specs.Transforming.{matrices_hold, matrices_result, MatrixRows}
use Rattle.derive_matrices.proofs.Placing.{length-rows}
use Rattle.derive_matrices.proofs.MatrixWords.{length-local, length-inverse_of}
use Rattle.check_lists.specs.Chained.{entries_in, alike}
use Rattle.check_stages.specs.Agreement.{chains_agree, indices_agree, matrices_agree, chains_stage, indices_stage, matrices_stage}
use Rattle.check_stages.specs.Agreement.{chains_judged, indices_judged, matrices_judged}
use Rattle.check_stages.proofs.Derived.{chains-derived}

-- ---- what a call that derives gives where it refuses nothing

derived-value : {A : Type 0} (n : ℕ) (hold : Bool) (a b : A) → derived n hold a ≡ done b → (leb n 65535 ≡ true) × (b ≡ a)
unfolding derived
derived-value {A} n hold a b e = by (leb n 65535) hold e
  where
    by : (few hold : Bool) → (need 2 few >>= λ u. need 1 hold >>= λ v. done a) ≡ done b → (few ≡ true) × (b ≡ a)
    by true true e = (refl, cc)
    by true false e = let z : ◌≡◌ {A = ℕ} 0 1 = cc in absurd (omega arith)
    by false hold e = let z : ◌≡◌ {A = ℕ} 0 1 = cc in absurd (omega arith)

-- the first words of a table that holds rows
first-words : {t : List ℕ} (w : List ℕ) (m k : ℕ) → t ≡ laid w m → length w ≡ k → take k t ≡ w
first-words w m k e l = rw e (take_at w (replicate (m - length w) 0) k l)

-- a result by cases
by_result :
    {A : Type 0} {P : Type 0} (g : Res A) → ((c : ℕ) → g ≡ refused c → P) → ((a : A) → g ≡ done a → P) → P
by_result (refused c) f h = f c refl
by_result (done a) f h = h a refl

-- behind a refusal nothing is judged
same-refused :
    {A : Type 0} (g : Res A) (j k : A → Res (Unit {0})) (c : ℕ) → g ≡ refused c → (g >>= j) ≡ (g >>= k)
same-refused g j k c e = rw e

same-done :
    {A : Type 0} (g : Res A) (j k : A → Res (Unit {0})) (a : A) → g ≡ done a → j a ≡ k a → (g >>= j) ≡ (g >>= k)
same-done g j k a e f = rw e f

-- ---- chains

alike-some : (o : Option (List (List Entry))) (d : List (List Entry)) → alike (same_list (same_list same_entry)) o (Some d) ≡ same_chains o d
alike-some None d = refl
alike-some (Some c) d = refl

pub chains_stage_lem :
    (n : ℕ) (t : List ℕ) (count : ℕ) (buckets entries : List ℕ) (lb le : ℕ) {b d : List ℕ} {g : Res ℕ} {a : Res (Unit {0})} →
    a ≡ chains_judged g buckets count entries n b d → g ≡ tags_result n (length t) lb le →
    b ≡ leaves (tags_result n (length t) lb le) (bucket_rows (tags (bones_of n t))) lb →
    d ≡ leaves (tags_result n (length t) lb le) (flat_map entry_words (entry_rows (tags (bones_of n t)))) le →
    a ≡ chains_stage n t count buckets entries lb le
unfolding chains_agree chains_judged
chains_stage_lem n t count buckets entries lb le {b} {d} {g} ej e eb ed =
    let ts = tags (bones_of n t) in
    let l : length ts ≡ n = length_column (λ x. x.tag) n t in
    let r = tags_result n (length t) lb le in
    let read = chains_along (entries_in entries) n (take count buckets) in
    let judge : ℕ → Res (Unit {0}) = λ c.
    need 21 (alike (same_list (same_list same_entry)) read (chains_along (entries_in d) n (take c b))) in
    let stage : ℕ → Res (Unit {0}) = λ c. chains_agree (bones_of n t) read in
    ej
    ∙ rw e
    (by_result r (same-refused r judge stage)
    (λ c i.
    let v = derived-value n (tags_hold n (length t) lb le) (bucket_count n) c i in
    same-done r judge stage c i
    (ap (need 21)
    (ap (alike (same_list (same_list same_entry)) read)
    (chains-derived ts lb le (rw i at eb) (rw i at ed) (sym l) (v.1 ∙ ap bucket_count (sym l)))
    ∙ alike-some read (chains ts)))))

-- ---- parents and children

pub indices_stage_lem :
    (n : ℕ) (t : List ℕ) (p : ℕ) (ps : List ℕ) (c : ℕ) (cs : List ℕ) (lp lc lq : ℕ) {dp dc : List ℕ} {g : Res ℕ}
    {a : Res (Unit {0})} → a ≡ indices_judged g n ps p cs c dp dc →
    g ≡ indices_result n t lp lc lq → dp ≡ leaves (indices_result n t lp lc lq) (parents_of n t) lp →
    dc ≡ leaves (indices_result n t lp lc lq) (children_of n t) lc →
    a ≡ indices_stage n t p ps c cs lp lc lq
unfolding indices_agree indices_judged
indices_stage_lem n t p ps c cs lp lc lq {dp} {dc} {g} ej e ep ec =
    let r = indices_result n t lp lc lq in
    let judge : ℕ → Res (Unit {0}) = λ k.
    need 22 (same_words (take p ps) (take n dp)) >>= λ u. need 23 (same_words (take c cs) (take k dc)) in
    let stage : ℕ → Res (Unit {0}) = λ k. indices_agree (bones_of n t) (take p ps) (take c cs) in
    ej
    ∙ rw e
    (by_result r (same-refused r judge stage)
    (λ k i.
    let v = derived-value n (indices_hold n (length t) lp lc lq) (length (children_of n t)) k i in
    same-done r judge stage k i
    (rw (
      first-words (parents_of n t) lp n (rw i at ep) (length_column (λ x. x.parent) n t),
      first-words (children_of n t) lc k (rw i at ec) (sym v.1),
    ))))

-- ---- matrices

length-inverses_of : (n : ℕ) (t : List ℕ) → length (inverses (bones_of n t)) ≡ 16 * n
unfolding inverses
length-inverses_of n t = length-rows (inverse_of (bones_of n t)) (length-inverse_of (bones_of n t)) n t

length-locals_of : (n : ℕ) (t : List ℕ) → length (locals (bones_of n t)) ≡ 16 * n
unfolding locals
length-locals_of n t = length-rows local_of length-local n t

pub matrices_few : (n : ℕ) (t : List ℕ) (li ll : ℕ) {g : Res (Unit {0})} → g ≡ matrices_result n (length t) li ll → g ≡ done tt → n ≤ 65535
matrices_few n t li ll e f = leb-true n 65535 (derived-value n (matrices_hold n (length t) li ll) tt tt (sym e ∙ f)).0

pub matrices_stage_lem :
    (n : ℕ) (t : List ℕ) (i : ℕ) (is : List ℕ) (l : ℕ) (ls : List ℕ) (i₀ l₀ : List ℕ) {di dl : List ℕ}
    {g a : Res (Unit {0})} → a ≡ matrices_judged g n is i ls l di dl →
    g ≡ matrices_result n (length t) (length i₀) (length l₀) →
    MatrixRows (matrices_result n (length t) (length i₀) (length l₀)) (bones_of n t) i₀ di l₀ dl →
    a ≡ matrices_stage n t i is l ls (length i₀) (length l₀)
unfolding matrices_agree matrices_judged
matrices_stage_lem n t i is l ls i₀ l₀ {di} {dl} {g} ej e m =
    let r = matrices_result n (length t) (length i₀) (length l₀) in
    let judge : Unit {0} → Res (Unit {0}) = λ x.
    need 24 (same_words (take i is) (take (16 * n) di)) >>= λ u. need 25 (same_words (take l ls) (take (16 * n) dl)) in
    let stage : Unit {0} → Res (Unit {0}) = λ x. matrices_agree (bones_of n t) (take i is) (take l ls) in
    ej
    ∙ rw e
    (by_result r (same-refused r judge stage)
    (λ x q.
    same-done r judge stage x q
    (rw (
      first-words (inverses (bones_of n t)) (length i₀) (16 * n) (rw q at m.inverse) (length-inverses_of n t),
      first-words (locals (bones_of n t)) (length l₀) (16 * n) (rw q at m.local) (length-locals_of n t),
    ))))
