-- Chains along the links of the derived rows, and the room that their entries want. Definitions only.
use Rattle.std.specs.Prelude.{◌≡◌, ℕ, zero, suc, ◌+◌, ◌*◌, ◌≤◌, List, [], ◌∷◌, map, length, get_or}
use Rattle.std.proofs.lemmas.List.Edits.{sets}
use Rattle.format.specs.Field.{word_bytes, Item, ◌⊳◌}
use Rattle.format.specs.Chains.{Entry, entry_of}
use Rattle.format.specs.Layout.{base, after, pointer, pointers, entry_total, entry_bytes, pad16}
use Rattle.format.specs.Section.{window}

-- an entry in front of one at an address, or of none where the link is 0
abbrev pub entry_items : ℕ → ℕ → ℕ → ℕ → List Item
entry_items at tag position link = 4 ⊳ tag ∷ 4 ⊳ position ∷ 8 ⊳ pointer at link ∷ []

-- at most k entries along the links of the rows: a link is 0 or one more than a row, and a row is a tag, a position and a link
unfoldable pub follow_rows : List ℕ → ℕ → ℕ → List Entry
follow_rows rows zero link = []
follow_rows rows (suc k) zero = []
follow_rows rows (suc k) (suc p) =
    entry_of (get_or rows (3 * p) 0) (get_or rows (3 * p + 1) 0) ∷ follow_rows rows k (get_or rows (3 * p + 2) 0)

-- the chain from a link on; where links fall, it has at most as many entries as the link says
abbrev pub linked : List ℕ → ℕ → List Entry
linked rows link = follow_rows rows link link

-- every link leads to an earlier row
abbrev pub LinksFall : List ℕ → Type 0
LinksFall rows = (p : ℕ) → get_or rows (3 * p + 2) 0 ≤ p

pub record ChainRoom (rows : List ℕ) (link at size : ℕ) : Type 0 where
  pub falls : LinksFall rows
  pub stands : 3 * link ≤ length rows
  pub room : at + 16 * length (linked rows link) ≤ size
  pub small : at + 16 * length (linked rows link) ≤ window

-- the chains of some buckets
abbrev pub chains_of : List ℕ → List ℕ → List (List Entry)
chains_of heads rows = map (linked rows) heads

pub record ChainsRoom (heads rows : List ℕ) (at to size : ℕ) : Type 0 where
  pub falls : LinksFall rows
  pub stands : (b : ℕ) → 3 * get_or heads b 0 ≤ length rows
  pub before : after at (8 * length heads) ≤ to
  pub room : to + 16 * entry_total (chains_of heads rows) ≤ size
  pub small : to + 16 * entry_total (chains_of heads rows) ≤ window

-- the pointers with their fill, and the entries behind them
pub record ChainsLaid (heads rows : List ℕ) (at to : ℕ) (d₀ d : List ℕ) : Type 0 where
  pub is :
      let cs = chains_of heads rows in
      d ≡ sets (sets d₀ at (pad16 (word_bytes 8 (pointers (base + to) cs)))) to (entry_bytes (base + to) cs)
