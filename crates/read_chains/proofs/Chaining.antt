-- The ways out of `read_chain` and `read_head`. In the loop, the rest of the chain from the tables so far comes to what the whole
-- comes to. Assumes nothing.
use Prim.Native.Nat.{ℕ, suc, ◌+◌, ◌-◌, ◌%◌, ◌≤◌, ◌<◌}
use native.Mathlib.Omega.{arith}
use mathlib.Core.Path.{◌≡◌, refl, sym, ap, subst, ◌∙◌}
use Rattle.std.specs.Prelude.{Option, None, Some, Result, Ok, Err}
use mathlib.Core.List.{List}
use lib.ListN.{length}
use Rattle.format.specs.Result.{Res, refused, done, ◌>>=◌}
use Rattle.format.specs.Refusal.{number}
use Rattle.format.specs.declared.Refusal.{Refusal}
use Rattle.format.specs.Section.{Section}
use Rattle.format.specs.Tables.{Tables, Room}
use Rattle.format.specs.Read.{link_to, read_chain, head_from, read_head}
use Rattle.blocks.specs.Hashed.{PlacedAt}
use Rattle.blocks.specs.declared.pool.Spot.{Spot}
use Rattle.read_chains.specs.Lent.{entry_room, HoldsEntries, Comes}
use Rattle.read_chains.specs.Entries.{no_row, meant_link, UnreadAt, LinksTo, ReadsEntry, ChainRead, ReadsChain, ReadsHead}
use Rattle.read_chains.specs.declared.chains.Link.{Link}
use Rattle.read_chains.specs.declared.chains.Link.TheVariants as L
use Rattle.read_chains.specs.declared.chains.Unread.{Unread}
use Rattle.read_chains.proofs.Lent.{room_most, link_row}
use Rattle.read_chains.proofs.Kept.{chain-room}

-- ---- the loop of a chain

pub record Chaining (sec : Section) (va used at row : ℕ) (e₀ e p₀ p : List ℕ) : Type 0 where
  pub same : length e ≡ length e₀
  pub same_pool : length p ≡ length p₀
  pub rest :
      {room : Room} {t : Tables} → HoldsEntries room t used e₀ p₀ →
      Comes (λ u. HoldsEntries room u row e p) (read_chain sec room (room.entries - used) va t)
      (read_chain sec room (room.entries - row) at)

pub chaining_none : (sec : Section) (va used : ℕ) (e p : List ℕ) → Chaining sec va used va used e e p p
chaining_none sec va used e p =
    record { same = refl; same_pool = refl; rest = λ {room} {t} h. record { t = t; is = refl; holds = h } }

module _ {sec : Section} {va used at row : ℕ} {e₀ e p₀ p : List ℕ} (g : Chaining sec va used at row e₀ e p₀ p) where
  -- no row is left
  pub chaining_full :
      {x : Refusal} → entry_room (length e₀) ≤ row → no_row sec at ≡ refused (number x) →
      ReadsChain sec va used (Err x) e₀ e p₀ p
  unfolding read_chain no_row
  chaining_full l n =
      record {
        reads =
            λ {room} {t} h.
            let c = g.rest h in
            let z : room.entries - row ≡ 0 = omega (arith, h.rows) in
            c.is ∙ ap (λ (k : ℕ). read_chain sec room k at c.t) z ∙ n;
      }

  module _ (l : row < entry_room (length e₀)) {s : Result (Option Unread) Refusal} {e' p' : List ℕ} (m : ReadsEntry sec at row s e e' p p') where
    -- the chain is the entry's turn
    turns :
        {room : Room} {t : Tables} (h : HoldsEntries room t used e₀ p₀) →
        read_chain sec room (room.entries - used) va t
        ≡ read_chain sec room (suc (room.entries - (row + 1))) at (g.rest h).t
    turns {room} {t} h =
        let k : room.entries - row ≡ suc (room.entries - (row + 1)) = omega (arith, h.rows) in
        (g.rest h).is ∙ ap (λ (x : ℕ). read_chain sec room x at (g.rest h).t) k

    stepped : {x : Result (Option Unread) Refusal} → s ≡ x → ReadsEntry sec at row x e e' p p'
    stepped i = subst (λ (x : Result (Option Unread) Refusal). ReadsEntry sec at row x e e' p p') i m

    pub chaining_end : s ≡ Ok None → ReadsChain sec va used (Ok (row + 1)) e₀ e' p₀ p'
    chaining_end i =
        record {
          reads =
              λ {room} {t} h.
              let c = (stepped i).reads (g.rest h).holds (room.entries - (row + 1)) in
              record { t = c.t; is = turns h ∙ c.is; holds = c.holds };
        }

    pub chaining_lost : {x : Refusal} → s ≡ Err x → ReadsChain sec va used (Err x) e₀ e' p₀ p'
    chaining_lost i =
        record { reads = λ {room} {t} h. turns h ∙ (stepped i).reads (g.rest h).holds (room.entries - (row + 1)) }

    pub chaining_next :
        {n : Unread} → s ≡ Ok (Some n) → length e' ≡ length e → length p' ≡ length p → Chaining sec va used n.address (row + 1) e₀ e' p₀ p'
    chaining_next i j k =
        record {
          same = j ∙ g.same;
          same_pool = k ∙ g.same_pool;
          rest =
              λ {room} {t} h.
              let c = (stepped i).reads (g.rest h).holds (room.entries - (row + 1)) in
              record { t = c.t; is = turns h ∙ c.is; holds = c.holds };
        }

    -- where the search for the next entry ended
    pub next-placed : {n : Unread} → s ≡ Ok (Some n) → PlacedAt p' n.address n.spot
    next-placed i = (stepped i).next

-- ---- the head of a chain

-- where the search for an unread entry ended
pub link-placed : {p : List ℕ} {va : ℕ} {n : Spot} {x : Result Link Refusal} → LinksTo p va x → x ≡ Ok (L.Unread n) → PlacedAt p va n
link-placed {p} {va} m i = subst (λ (y : Result Link Refusal). UnreadAt p va y) i m.unread

module _ (sec : Section) {va used : ℕ} {e₀ p₀ : List ℕ} {x : Result Link Refusal} (m : LinksTo p₀ va x) where
  linked :
      {room : Room} {t : Tables} (h : HoldsEntries room t used e₀ p₀) (o : Res (Option ℕ)) → meant_link x ≡ o →
      read_head sec room va t ≡ (o >>= head_from sec room va t)
  unfolding read_head
  linked {room} {t} h o e =
      let link : link_to va t ≡ o = sym (m.links t h.pool h.linked) ∙ e in
      rw link refl

  pub head_known : {k : ℕ} → x ≡ Ok (L.To k) → ReadsHead sec va used (Ok (record { link = k; used = used })) e₀ e₀ p₀ p₀
  unfolding head_from
  head_known {k} i =
      record {
        reads = λ {room} {t} h. record { t = t; is = linked h (done (Some k)) (ap meant_link i); holds = h };
      }

  pub head_other : {y : Refusal} → x ≡ Err y → ReadsHead sec va used (Err y) e₀ e₀ p₀ p₀
  head_other {y} i = record { reads = λ h. linked h (refused (number y)) (ap meant_link i) }

  module _ {n : Spot} (i : x ≡ Ok (L.Unread n)) {r : Result ℕ Refusal} {e p : List ℕ} (c : ReadsChain sec va used r e₀ e p₀ p) where
    -- the chain's outcome, and what the head makes of it
    reading :
        {room : Room} {t : Tables} (h : HoldsEntries room t used e₀ p₀) (o : Res Tables) →
        read_chain sec room (room.entries - used) va t ≡ o → read_head sec room va t ≡ (o >>= λ u. done (suc used, u))
    unfolding head_from
    reading {room} {t} h o f =
        linked h (done None) (ap meant_link i) ∙ rw (← h.count, f) refl

    chained : {y : Result ℕ Refusal} → r ≡ y → {room : Room} {t : Tables} → HoldsEntries room t used e₀ p₀ →
        ChainRead room (read_chain sec room (room.entries - used) va t) e p y
    chained {y} j {room} {t} h =
        subst (λ (z : Result ℕ Refusal). ChainRead room (read_chain sec room (room.entries - used) va t) e p z) j (c.reads h)

    pub head_new : {n k : ℕ} → r ≡ Ok n → k ≡ used % 4294967295 + 1 → ReadsHead sec va used (Ok (record { link = k; used = n })) e₀ e p₀ p
    head_new j f =
        record {
          reads =
              λ {room} {t} h.
              let u = chained j h in
              let low : used < 4294967295 =
              omega (arith, chain-room sec room (room.entries - used) va t u.t u.is, h.rows, room_most (length e₀)) in
              record {
                t = u.t;
                is =
                    reading h (done u.t) u.is ∙
                    ap (λ (y : ℕ). done (y, u.t)) (sym (link_row used f low));
                holds = u.holds;
              };
        }

    pub head_lost : {y : Refusal} → r ≡ Err y → ReadsHead sec va used (Err y) e₀ e p₀ p
    head_lost {y} j = record { reads = λ h. reading h (refused (number y)) (chained j h) }
