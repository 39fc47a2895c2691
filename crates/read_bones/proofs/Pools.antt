-- Laws of a pool while bones are read: what a row found again is, and that a store reads no bone further on. Assumes nothing.
use Rattle.std.proofs.Common.{◌≡◌, ℕ, ◌≤◌, Bool, true, false, List, sym, refl, ap, ◌∙◌, ⊎_elim, arith, eqb-true}
use Rattle.std.specs.Prelude.{Option, None, Some}
use Rattle.format.specs.Result.{done, ◌>>=◌, need}
use Rattle.format.specs.Tables.{Kind, kind_number, same_kind, Rows, Pooled, find, as_kind}
use Rattle.blocks.specs.Pool.{enter}
use Rattle.blocks.proofs.Cases.{eq-or-ne}
use Rattle.blocks.proofs.Entering.{find-enter-same, find-enter-other}
use Rattle.read_bones.specs.Lent.{Passed, Unread}

-- ---- what is found again as a kind

pub record Again (k : Kind) (o : Option Pooled) (s : Rows) : Type 0 where
  pub row : Pooled
  pub here : o ≡ Some row
  pub same : kind_number row.kind ≡ kind_number k
  pub stored : row.stored ≡ s

pub found_again : (k : Kind) (o : Option Pooled) (s : Rows) → as_kind k o ≡ done (Some s) → Again k o s
unfolding as_kind
found_again k None s e = let z : ◌≡◌ {A = ℕ} 0 1 = cc in absurd (omega arith)
found_again k (Some p) s e = by (same_kind p.kind k) refl e
  where
    by :
        (b : Bool) → same_kind p.kind k ≡ b → (need 12 b >>= λ u. done (Some p.stored)) ≡ done (Some s) → Again k (Some p) s
    by true f d =
        record { row = p; here = refl; same = eqb-true (kind_number p.kind) (kind_number k) f; stored = cc }
    by false f d = let z : ◌≡◌ {A = ℕ} 0 1 = cc in absurd (omega arith)

-- ---- bones that are yet to be read

pub unread_later : {at : ℕ} {q : List Pooled} → Unread at q → (to : ℕ) → at ≤ to → Unread to q
unread_later u to l =
    record {
      each =
          λ a p f.
          let h = u.each a p f in
          record { bones = λ k. omega (arith, h.bones k); names = h.names };
    }

pub unread-enter :
    (n at : ℕ) (p : Pooled) (q : List Pooled) {e : List Pooled} → enter n p q ≡ done e → Passed at p.address p → Unread at q →
    Unread at e
unread-enter n at p q {e} d h u =
    record {
      each =
          λ a x f.
          ⊎_elim
          (λ (w : p.address ≡ a). same a x f w)
          (λ (w : p.address ≡ a → ⊥). u.each a x (sym (find-enter-other n p q d a w) ∙ f))
          (eq-or-ne p.address a);
    }
  where
    same : (a : ℕ) (x : Pooled) → find a e ≡ Some x → p.address ≡ a → Passed at a x
    same a x f w =
        let g : Some p ≡ Some x = sym (find-enter-same n p q d) ∙ ap (λ (k : ℕ). find k e) w ∙ f in
        let i : p ≡ x = cc in
        rw (← i) (rw (← w) h)
