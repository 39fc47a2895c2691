-- What a caller learns of an answer: what the reading of the list gives, and what stands in the tables then. Assumes nothing.
use mathlib.Core.Path.{◌≡◌, sym, ap, ◌∙◌}
use Rattle.std.specs.Prelude.{Option, None, Some, Result, Ok}
use mathlib.Core.List.{List}
use Prim.Native.Nat.{ℕ}
use native.Mathlib.Omega.{arith}
use lib.ListN.{length}
use Rattle.format.specs.Result.{refused, done}
use Rattle.format.specs.declared.Refusal.{Refusal}
use Rattle.format.specs.Tables.{ListTable, Rows, Tables, words_in}
use Rattle.format.specs.Read.{Step}
use Rattle.read_lists.specs.Lists.{meant_listed}
use Rattle.read_lists.specs.Reads.{list_given, ListTableLeft, HoldsList, ListComes}
use Rattle.blocks.specs.Pool.{meant_rows}
use Rattle.read_lists.specs.declared.List as ours
use Rattle.read_lists.proofs.Reading.{both_same}

-- the reading gives the list o, and then m words of its table are used
pub record Gives (l : ListTable) (n : ℕ) (g : Step (Option Rows)) (o : Option Rows) (m : ℕ) (t₀ t p : List ℕ) : Type 0 where
  pub after : Tables
  pub is : g ≡ done (o, after)
  pub size : m ≡ length (words_in l after.lists)
  pub holds : HoldsList l n after t₀ t p

gives_by :
    {l : ListTable} {n : ℕ} (g : Step (Option Rows)) {o : Option Rows} {m : ℕ} {t₀ t p : List ℕ} →
    done (o, m) ≡ list_given l g → ListTableLeft l n g t₀ t p → Gives l n g o m t₀ t p
gives_by (refused c) e h = let z : ◌≡◌ {A = ℕ} 0 1 = cc in absurd (omega arith)
gives_by (done (s, u)) e h =
    let q = both_same e in
    record { after = u; is = ap (λ (x : Option Rows). done (x, u)) (sym q.0); size = q.1; holds = h }

module _
    {l : ListTable} {n : ℕ} {g : Step (Option Rows)} {used : ℕ} {r : Result (Option ours.List) Refusal} {t₀ t p : List ℕ}
    (c : ListComes l n g used r t₀ t p)
  where
    pub list_absent : r ≡ Ok None → Gives l n g None used t₀ t p
    list_absent e = gives_by g (sym (ap (meant_listed used) e) ∙ c.answer) c.tables

    pub list_at : {x : ours.List} → r ≡ Ok (Some x) → Gives l n g (Some (meant_rows x.stored)) x.used t₀ t p
    list_at e = gives_by g (sym (ap (meant_listed used) e) ∙ c.answer) c.tables
