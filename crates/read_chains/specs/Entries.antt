-- What reading entries and chains promises, over every tables that the lent ones hold (docs/FORMAT.md, "Reading and writing a
-- skeleton"). Of a refusal the number alone is said. Definitions only.
use Rattle.std.specs.Prelude.{ℕ, suc, ◌+◌, ◌-◌, ◌≡◌, List}
use Rattle.std.specs.Prelude.{Option, None, Some, Result, Ok, Err}
use Rattle.format.specs.Result.{Res, refused, done, ◌>>=◌}
use Rattle.format.specs.Refusal.{number, outcome_by}
use Rattle.format.specs.declared.Refusal.{Refusal}
use Rattle.format.specs.Section.{Section, part}
use Rattle.format.specs.Tables.{Tables, Room}
use Rattle.format.specs.Read.{Step, link_to, read_chain, read_head}
use Rattle.blocks.specs.Hashed.{Represents, PlacedAt}
use Rattle.read_chains.specs.Lent.{LinksFit, HoldsEntries, Comes}
use Rattle.read_chains.specs.declared.chains.Link.{Link}
use Rattle.read_chains.specs.declared.chains.Link.TheVariants as L
use Rattle.read_chains.specs.declared.chains.Unread.{Unread}
use Rattle.read_chains.specs.declared.chains.Head.{Head}

-- ---- no row

-- what an entry comes to where no row is left
unfoldable pub no_row : Section → ℕ → Res Tables
no_row sec va = do
  b ← part sec va 16
  refused 1

-- ---- links

-- the link, where it is known
abbrev pub known : Link → Option ℕ
known (L.To k) = Some k
known (L.Unread i) = None

abbrev pub meant_link : Result Link Refusal → Res (Option ℕ)
meant_link r = outcome_by known r

-- the search for an entry that is yet to be read ended at the row told
abbrev pub UnreadAt : List ℕ → ℕ → Result Link Refusal → Type 0
UnreadAt p va (Ok (L.To k)) = Unit {0}
UnreadAt p va (Ok (L.Unread i)) = PlacedAt p va i
UnreadAt p va (Err x) = Unit {0}

pub record LinksTo (p : List ℕ) (va : ℕ) (r : Result Link Refusal) : Type 0 where
  pub unread : UnreadAt p va r
  pub links : {n : ℕ} (t : Tables) → Represents p n t.pool → LinksFit t.pool → meant_link r ≡ link_to va t

-- ---- one entry

-- g is the chain from an entry on; `left` rows are left behind the entry's own
abbrev pub Stepped : Section → Room → ℕ → Res Tables → ℕ → List ℕ → List ℕ → Result (Option Unread) Refusal → Type 0
Stepped sec room left g used e p (Ok None) = Comes (λ u. HoldsEntries room u used e p) g done
Stepped sec room left g used e p (Ok (Some n)) = Comes (λ u. HoldsEntries room u used e p) g (read_chain sec room left n.address)
Stepped sec room left g used e p (Err x) = g ≡ refused (number x)

-- the search for the next entry ended at the row told
abbrev pub NextAt : List ℕ → Result (Option Unread) Refusal → Type 0
NextAt p (Ok None) = Unit {0}
NextAt p (Ok (Some n)) = PlacedAt p n.address n.spot
NextAt p (Err x) = Unit {0}

pub record ReadsEntry (sec : Section) (va row : ℕ) (r : Result (Option Unread) Refusal) (e₀ e p₀ p : List ℕ) : Type 0 where
  pub next : NextAt p r
  pub reads :
      {room : Room} {t : Tables} → HoldsEntries room t row e₀ p₀ → (left : ℕ) →
      Stepped sec room left (read_chain sec room (suc left) va t) (row + 1) e p r

-- ---- a chain

abbrev pub ChainRead : Room → Res Tables → List ℕ → List ℕ → Result ℕ Refusal → Type 0
ChainRead room g e p (Ok used) = Comes (λ u. HoldsEntries room u used e p) g done
ChainRead room g e p (Err x) = g ≡ refused (number x)

pub record ReadsChain (sec : Section) (va used : ℕ) (r : Result ℕ Refusal) (e₀ e p₀ p : List ℕ) : Type 0 where
  pub reads :
      {room : Room} {t : Tables} → HoldsEntries room t used e₀ p₀ →
      ChainRead room (read_chain sec room (room.entries - used) va t) e p r

-- ---- the link to a chain's head

abbrev pub Headed : Room → Step ℕ → List ℕ → List ℕ → Result Head Refusal → Type 0
Headed room g e p (Ok h) = Comes (λ u. HoldsEntries room u h.used e p) g (λ u. done (h.link, u))
Headed room g e p (Err x) = g ≡ refused (number x)

pub record ReadsHead (sec : Section) (va used : ℕ) (r : Result Head Refusal) (e₀ e p₀ p : List ℕ) : Type 0 where
  pub reads : {room : Room} {t : Tables} → HoldsEntries room t used e₀ p₀ → Headed room (read_head sec room va t) e p r
