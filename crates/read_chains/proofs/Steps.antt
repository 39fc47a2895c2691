-- The ways out of `read_entry`: one turn of the format's `read_chain`. Assumes nothing.
use Prim.Native.Nat.{ℕ, suc, ◌+◌, ◌*◌, ◌%◌, ◌<◌}
use native.Mathlib.Omega.{arith}
use mathlib.Core.Path.{◌≡◌, refl, sym, ap, subst, ◌∙◌}
use Rattle.std.specs.Prelude.{Option, None, Some, Result, Ok, Err}
use mathlib.Core.List.{List, [], ◌∷◌}
use lib.ListN.{length}
use lib.Seq.{sets}
use Rattle.format.specs.Result.{Res, refused, done, ◌>>=◌}
use Rattle.format.specs.Refusal.{number, outcome}
use Rattle.format.specs.declared.Refusal.{Refusal}
use Rattle.format.specs.Section.{Section}
use Rattle.format.specs.Deriving.{entry_row}
use Rattle.format.specs.Records.{entry_next}
use Rattle.format.specs.Tables.{entry, rows, pooled, Tables, Room, with_pool, add_entry}
use Rattle.format.specs.Read.{link_to, chain_from, read_chain}
use Rattle.blocks.specs.declared.pool.Spot.{Spot}
use Rattle.blocks.specs.Pool.{Stores}
use Rattle.blocks.proofs.Storing.{after, put-done, tables-done, tables-full}
use Rattle.read_chains.specs.Lent.{entry_room, HoldsEntries}
use Rattle.read_records.specs.Entry.{entry_at}
use Rattle.read_chains.specs.Entries.{meant_link, UnreadAt, LinksTo, ReadsEntry}
use Rattle.read_records.specs.declared.entry.Entry.{Entry}
use Rattle.read_chains.specs.declared.chains.Link.{Link}
use Rattle.read_chains.specs.declared.chains.Link.TheVariants as L
use Rattle.read_chains.proofs.Lent.{room_most, link_row, linked-more, holds-entry}
use Rattle.read_records.proofs.Entries.{Held, entry-held, entry_lost}

holding : {sec : Section} {va : ℕ} {y : Result Entry Refusal} {f : Entry} → outcome y ≡ entry_at sec va → y ≡ Ok f → Held sec va f
holding {sec} {va} {y} {f} fs a = entry-held sec va f (sym (ap outcome a) ∙ fs)

module _ (sec : Section) (va row : ℕ) {e₀ p₀ : List ℕ} {y : Result Entry Refusal} (fs : outcome y ≡ entry_at sec va) where
  -- its bytes do not stand
  pub step_lost : {x : Refusal} → y ≡ Err x → ReadsEntry sec va row (Err x) e₀ e₀ p₀ p₀
  unfolding read_chain
  step_lost {x} a =
      record { next = tt; reads = λ h left. rw (entry_lost sec va (number x) (sym (ap outcome a) ∙ fs)) refl }

  module _ {f : Entry} (a : y ≡ Ok f) {s : Result (Unit {0}) Refusal} {p : List ℕ} (w : Stores (pooled va entry (rows row 1)) s p₀ p) where
    -- the pool is full
    pub step_full : {z : Refusal} → s ≡ Err z → ReadsEntry sec va row (Err z) e₀ e₀ p₀ p
    unfolding read_chain
    step_full d =
        record {
          next = tt;
          reads =
              λ {room} {t} h left.
              rw ((holding fs a).is, ← h.count, tables-full room t va entry (rows row 1) w h.pool d) refl;
        }

    module _
        {v : Unit {0}} (d : s ≡ Ok v) (fits : row < entry_room (length e₀)) {l : Result Link Refusal} (m : LinksTo p f.next l)
      where
        -- the tables once the entry is pooled
        abbrev with : {room : Room} {t : Tables} → HoldsEntries room t row e₀ p₀ → Tables
        with {room} {t} h = with_pool (after w h.pool) t

        turn :
            {room : Room} {t : Tables} (h : HoldsEntries room t row e₀ p₀) (left : ℕ) (o : Res (Option ℕ)) → meant_link l ≡ o →
            read_chain sec room (suc left) va t
            ≡ (o >>= chain_from sec room (read_chain sec room left) (holding fs a).bytes row (with h))
        unfolding read_chain
        turn {room} {t} h left o e =
            let same : entry_next (holding fs a).bytes ≡ f.next = ap (λ (x : Entry). x.next) (holding fs a).fields in
            let link : link_to (entry_next (holding fs a).bytes) (with h) ≡ o =
            ap (λ (x : ℕ). link_to x (with h)) same ∙
            sym (m.links (with h) (put-done w h.pool d) (linked-more h w d fits)) ∙ e in
            rw ((holding fs a).is, ← h.count, tables-done room t va entry (rows row 1) w h.pool d, link) refl

        -- its link leads to another kind
        pub step_other : {x : Refusal} → l ≡ Err x → ReadsEntry sec va row (Err x) e₀ e₀ p₀ p
        step_other {x} e = record { next = tt; reads = λ h left. turn h left (refused (number x)) (ap meant_link e) }

        -- the chain ends, or joins one already read
        pub step_end :
            {k : ℕ} {e : List ℕ} → l ≡ Ok (L.To k) → e ≡ sets e₀ (3 * row) (f.tag ∷ f.position ∷ k ∷ []) →
            ReadsEntry sec va row (Ok None) e₀ e p₀ p
        step_end {k} i is =
            record {
              next = tt;
              reads =
                  λ h left.
                  record {
                    t = add_entry (entry_row f.tag f.position k) (with h);
                    is =
                        turn h left (done (Some k)) (ap meant_link i) ∙
                        ap (λ (x : Entry). done (add_entry (entry_row x.tag x.position k) (with h))) (holding fs a).fields;
                    holds = holds-entry h w d fits f.tag f.position k is;
                  };
            }

        -- the next entry is yet to be read: it will stand in the next row
        pub step_next :
            {n : Spot} {k : ℕ} {e : List ℕ} → l ≡ Ok (L.Unread n) → k ≡ (row + 1) % 4294967295 + 1 →
            e ≡ sets e₀ (3 * row) (f.tag ∷ f.position ∷ k ∷ []) → ReadsEntry sec va row (Ok (Some (record { address = f.next; spot = n }))) e₀ e p₀ p
        step_next {n} {k} i j is =
            let low : row + 1 < 4294967295 = omega (arith, room_most (length e₀)) in
            let next : suc (suc row) ≡ k = omega (arith, link_row (row + 1) j low) in
            record {
              next = subst (λ (x : Result Link Refusal). UnreadAt p f.next x) i m.unread;
              reads =
                  λ {room} {t} h left.
                  record {
                    t = add_entry (entry_row f.tag f.position k) (with h);
                    is =
                        turn h left (done None) (ap meant_link i) ∙
                        ap
                        (λ (x : Entry).
                        read_chain sec room left x.next (add_entry (entry_row x.tag x.position (suc (suc row))) (with h)))
                        (holding fs a).fields ∙
                        ap (λ (x : ℕ). read_chain sec room left f.next (add_entry (entry_row f.tag f.position x) (with h)))
                        next;
                    holds = holds-entry h w d fits f.tag f.position k is;
                  };
            }
