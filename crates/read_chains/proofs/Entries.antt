-- Where no row is left, and the ways out of `link_to`. Assumes nothing.
use Prim.Native.Nat.{ℕ, zero, suc, ◌+◌, ◌%◌}
use mathlib.Core.Path.{◌≡◌, refl, sym, ap, ◌∙◌}
use Rattle.std.specs.Prelude.{Option, None, Some, Result, Ok, Err}
use mathlib.Core.List.{List}
use Rattle.format.specs.Result.{Res, refused, done, ◌>>=◌}
use Rattle.format.specs.declared.Refusal.{Refusal}
use Rattle.format.specs.Section.{Section, part}
use Rattle.format.specs.Tables.{entry, Rows, rows, Tables, find, as_kind}
use Rattle.format.specs.Read.{link_of, link_to}
use Rattle.blocks.specs.Hashed.{PlacedAt}
use Rattle.blocks.specs.declared.pool.Spot.{Spot}
use Rattle.blocks.specs.Pool.{FindsAs, meant_cached}
use Rattle.blocks.specs.declared.pool.Stored.{Stored}
use Rattle.read_chains.specs.Lent.{LinksFit}
use Rattle.read_chains.specs.Entries.{no_row, meant_link, UnreadAt, LinksTo}
use Rattle.read_chains.specs.declared.chains.Link.{Link}
use Rattle.read_chains.specs.declared.chains.Link.TheVariants as L
use Rattle.read_chains.proofs.Lent.{link_row}

-- ---- no row is left

module _ (s : Section) (va : ℕ) where
  pub no_row-stands : {b : List ℕ} → done b ≡ part s va 16 → no_row s va ≡ refused 1
  unfolding no_row
  no_row-stands e = rw (← e) refl

  pub no_row-outside : {x : ℕ} → refused x ≡ part s va 16 → no_row s va ≡ refused x
  unfolding no_row
  no_row-outside e = rw (← e) refl

-- ---- the ways out of `link_to`

pub links-zero : (p : List ℕ) (va : ℕ) → va ≡ 0 → LinksTo p va (Ok (L.To 0))
unfolding link_to
links-zero p va e = rw e (record { unread = tt; links = λ t h l. refl })

link-read : (va : ℕ) (t : Tables) → (va ≡ 0 → ⊥) → link_to va t ≡ (as_kind entry (find va t.pool) >>= λ r. done (link_of r))
unfolding link_to
link-read zero t n = absurd (n refl)
link-read (suc a) t n = refl

module _ {p : List ℕ} {va : ℕ} (n : va ≡ 0 → ⊥) {x : Result (Option Stored) Refusal} (m : FindsAs p entry va x) where
  links_by : {y : Result (Option Stored) Refusal} {r : Result Link Refusal} → x ≡ y → UnreadAt p va r →
      ((t : Tables) → LinksFit t.pool → as_kind entry (find va t.pool) ≡ meant_cached y →
      meant_link r ≡ (meant_cached y >>= λ r. done (link_of r))) →
      LinksTo p va r
  links_by {y} e u f =
      record {
        unread = u;
        links =
            λ t h l.
            let is : as_kind entry (find va t.pool) ≡ meant_cached y = sym (m.found h) ∙ ap meant_cached e in
            f t l is ∙ sym (link-read va t n ∙ ap (λ (r : Res (Option Rows)). r >>= λ r. done (link_of r)) is);
      }

  pub links-unread : x ≡ Ok None → {i : Spot} → PlacedAt p va i → LinksTo p va (Ok (L.Unread i))
  links-unread e g = links_by e g λ t l is. refl

  pub links_read_lem : {s : Stored} {k : ℕ} → x ≡ Ok (Some s) → k ≡ s.first % 4294967295 + 1 → LinksTo p va (Ok (L.To k))
  links_read_lem {s} {k} e i =
      links_by e tt λ t l is. let j : k ≡ suc s.first = link_row s.first i (l.fits va (rows s.first s.count) is) in ap (λ (y : ℕ). done (Some y)) j

  pub links-other : {y : Refusal} → x ≡ Err y → LinksTo p va (Err y)
  links-other e = links_by e tt λ t l is. refl
