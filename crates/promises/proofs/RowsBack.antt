-- What the rows read stand for: chains, bones with their kept words, and the four lists. Assumes nothing.
use mathlib.Core.Path.{◌≡◌, refl, sym, ap, ◌∙◌, subst}
use Prim.Native.Nat.{ℕ, zero, suc, ◌*◌}
use native.Mathlib.Nat.{mul-zero}
use native.Mathlib.Omega.{arith}
use mathlib.Core.List.{List, [], ◌∷◌}
use lib.ListN.{length, take}
use lib.Seq.{take-length, take_all}
use Rattle.format.specs.Section.{Place}
use Rattle.format.specs.Bone.{Bone}
use Rattle.format.specs.Chains.{Entry, up_from}
use Rattle.format.specs.Matrices.{locals}
use Rattle.format.specs.Tables.{ListTable, words_per_row, rows, SkeletonRow, Pooled, Chained, Lists, Tables, tables, words_in}
use Rattle.format.specs.Read.{take_columns, keep_columns}
use Rattle.format.specs.Layout.{NamedBone}
use Rattle.format.specs.Check.{list_read, gather, bones_read}
use Rattle.promises.specs.Meaning.{links_read, ChainsFrom}
use Rattle.promises.proofs.Lists.{length-up_from}
use Rattle.promises.proofs.ChainsBack.{chains_rows, head_links, length-head_links, chains_from}
use Rattle.promises.proofs.BucketsBack.{listed_of}
use Rattle.promises.proofs.ColumnsBack.{kept_rows, columns_back, gathered}

-- a list is empty where its rows are none
none_left : (l : ListTable) (vs : List ℕ) → length vs ≡ words_per_row l * 0 → [] ≡ vs
none_left l [] e = refl
none_left l (v ∷ vs) e = absurd (omega (arith, e, mul-zero (words_per_row l)))

pub list_read_lem :
    (l : ListTable) (m : ℕ) (vs : List ℕ) (t : Tables) → length vs ≡ words_per_row l * m → words_in l t.lists ≡ vs →
    list_read l (listed_of m (rows 0 (length vs))) t ≡ vs
list_read_lem l zero vs t n e = none_left l vs n
list_read_lem l (suc m) vs t n e = ap (take (length vs)) e ∙ take-length vs

-- the chains along the links of the buckets
pub chains_read_lem :
    (cs : List (List Entry)) (t : Tables) → t.chained ≡ record { buckets = head_links 0 cs; entries = chains_rows 0 cs } →
    ChainsFrom t.chained.entries (links_read (listed_of (length cs) (rows 0 (length cs))) t) cs
chains_read_lem [] t e = tt
chains_read_lem (c ∷ cs) t e =
    subst (λ (x : Chained). ChainsFrom x.entries (take (length (c ∷ cs)) x.buckets) (c ∷ cs)) (sym e)
    (subst (λ l. ChainsFrom (chains_rows 0 (c ∷ cs)) l (c ∷ cs))
    (sym (take_all (length (c ∷ cs)) (head_links 0 (c ∷ cs)) (omega (arith, length-head_links 0 (c ∷ cs)))))
    (chains_from [] (c ∷ cs)))

module _ (c : Chained) (ls : Lists) (sk : List SkeletonRow) (q : List Pooled) where
  members-all : (n : ℕ) → take n (up_from 0 n) ≡ up_from 0 n
  members-all n = take_all n (up_from 0 n) (omega (arith, length-up_from 0 n))

  -- the bones of the block are the rows
  pub bones_read_lem :
      (n : ℕ) (rs : List (Bone Place)) → length rs ≡ n → bones_read (listed_of n (rows 0 n)) (tables c rs (up_from 0 n) ls sk q) ≡ rs
  bones_read_lem zero [] e = refl
  bones_read_lem zero (r ∷ rs) e = absurd (omega (arith, e))
  bones_read_lem (suc n) rs e = ap (gather rs) (members-all (suc n) ∙ ap (up_from 0) (sym e)) ∙ gathered rs

  -- they take their kept words from the local matrices
  pub columns_kept :
      (bs : List NamedBone) (rs : List (Bone Place)) → length rs ≡ length bs → ls.local ≡ locals bs →
      keep_columns (listed_of (length bs) (rows 0 (length bs))) (listed_of (length bs) (rows 0 (length (locals bs))))
      (tables c rs (up_from 0 (length bs)) ls sk q) ≡ tables c (kept_rows bs rs) (up_from 0 (length bs)) ls sk q
  columns_kept [] rs e l = refl
  columns_kept (b ∷ bs) rs e l =
      ap (λ x. tables c x (up_from 0 (length (b ∷ bs))) ls sk q)
      (ap (λ x. take_columns x (take (length (locals (b ∷ bs))) ls.local) rs) (members-all (length (b ∷ bs)))
      ∙ ap (λ x. take_columns (up_from 0 (length (b ∷ bs))) x rs)
      (ap (take (length (locals (b ∷ bs)))) l ∙ take-length (locals (b ∷ bs)))
      ∙ columns_back (b ∷ bs) [] rs e)
