-- The ways out of `chains_in`, `bones_in`, `list_in` and `keep`: one part of a reading. Assumes nothing.
use Rattle.std.specs.Prelude.{None}
use Rattle.std.specs.Prelude.{Option}
use Rattle.std.specs.Option.{option_map, MatchOption, IsSomeAnd}
use Rattle.std.specs.Prelude.{Ok, Result}
use Prim.Native.Nat.{ℕ}
use native.Mathlib.Omega.{arith}
use mathlib.Core.Path.{◌≡◌, refl, ap, subst, ◌∙◌}
use Rattle.std.specs.Prelude.{Some}
use mathlib.Core.List.{List, [], ◌∷◌}
use lib.ListN.{length}
use Rattle.format.specs.Result.{done}
use Rattle.format.specs.declared.Refusal.{Refusal}
use Rattle.format.specs.Section.{Section}
use Rattle.format.specs.Rows.{laid}
use Rattle.format.specs.Tables.{ListTable, rows, Tables, Room, words_in}
use Rattle.format.specs.Read.{read_list}
use Rattle.read_chains.specs.Arrays.{ReadsBuckets}
use Rattle.read_chains.specs.declared.Buckets.{Buckets}
use Rattle.read_chains.proofs.Arrays.{buckets_as}
use Rattle.blocks.specs.Hashed.{Represents}
use Rattle.blocks.specs.Pool.{meant_rows}
use Rattle.read_lists.specs.Lists.{ListsStand}
use Rattle.read_lists.specs.Reads as lists
use Rattle.read_lists.specs.Reads.{ReadsList}
use Rattle.read_lists.specs.declared.List.{List as Read}
use Rattle.read_lists.proofs.Outcomes.{Gives, list_absent, list_at}
use Rattle.read_lists.proofs.Frames.{list_framed}
use Rattle.read.specs.Parts.{meant_part, Fits, ReadsChains, ListLeft, ReadsListIn}
use Rattle.read.proofs.Firsts.{array-first, list-first}

-- ---- how long a part is

-- what the code takes of a part that stands
pub mapped :
    {A : Type 0} (f : A → ℕ) (o : Option A) (q : Option ℕ) {P : A → ℕ → Type 0} → ((x : A) (k : ℕ) → P x k → k ≡ f x) →
    MatchOption o (q ≡ None) (λ x. IsSomeAnd q (P x)) → q ≡ option_map f o
mapped f None q h m = m
mapped f (Some x) None h m = absurd m
mapped f (Some x) (Some k) h m = ap Some (h x k m)

-- ---- buckets with chains

module _
    {sec : Section} {va n : ℕ} {r : Result (Option Buckets) Refusal} {b₀ b e₀ e p₀ p : List ℕ}
    (m : ReadsBuckets sec va n 0 0 r b₀ b e₀ e p₀ p)
  where
    pub chains_absent : r ≡ Ok None → ReadsChains sec va n (Ok None) b₀ b e₀ e p₀ p
    chains_absent i =
        record {
          reads =
              λ room h.
              let c = buckets_as m i h in
              record { t = c.t; used = 0; used_entries = 0; is = c.is; holds = c.holds };
        }

    chains_at : {x : Buckets} → r ≡ Ok (Some x) → ReadsChains sec va n (Ok (Some x.stored.count)) b₀ b e₀ e p₀ p
    chains_at {x} i =
        record {
          reads =
              λ room h.
              let d = buckets_as m i h in
              let z : x.stored.first ≡ 0 = array-first sec room va n (rows x.stored.first x.stored.count) d.t d.is in
              record {
                t = d.t;
                used = x.used.buckets;
                used_entries = x.used.entries;
                is = d.is ∙ ap (λ (y : ℕ). done (Some (rows y x.stored.count), d.t)) z;
                holds = d.holds;
              };
        }

    pub chains-read :
        (o : Option Buckets) {q : Option ℕ} → r ≡ Ok o → q ≡ option_map (λ (x : Buckets). x.stored.count) o →
        ReadsChains sec va n (Ok q) b₀ b e₀ e p₀ p
    chains-read None i e = rw e (chains_absent i)
    chains-read (Some x) i e = rw e (chains_at i)

-- ---- lists

-- the tables by what the list added
list_left :
    (sec : Section) (l : ListTable) (va n : ℕ) {o t₀ t p₀ p : List ℕ} (room : Room) (u : Tables) → lists.LentList l room u 0 t₀ o p₀ →
    (x : Option ℕ) {k : ℕ} (g : Gives l room.pool (read_list sec room l va n u) (meant_part x) k t₀ t p) →
    Fits x (length (words_in l g.after.lists)) → ListLeft l room u (read_list sec room l va n u) x t₀ t p
list_left sec l va n {t₀ = t₀} {t = t} {p = p} room u h x g f =
    let d = list_framed sec room l va n u g.after (meant_part x) g.is in
    record {
      words = d.words;
      pool = d.after;
      is = g.is ∙ ap (λ (y : Tables). done (meant_part x, y)) d.is;
      own = g.holds.own ∙ ap (λ (y : Tables). laid (words_in l y.lists) (length t₀)) d.is;
      held = subst (λ (y : Tables). Represents p room.pool y.pool) d.is g.holds.pool;
      lists = subst ListsStand d.is (d.lists h.lists);
      fits = subst (λ (y : Tables). Fits x (length (words_in l y.lists))) d.is f;
    }

-- nothing but zeros was used before
no_words : (w : List ℕ) → 0 ≡ length w → w ≡ []
no_words [] e = refl
no_words (x ∷ w) e = absurd (omega arith)

module _
    {sec : Section} {l : ListTable} {va n : ℕ} {o : List ℕ} {r : Result (Option Read) Refusal} {t₀ t p₀ p : List ℕ}
    (m : ReadsList sec l va n 0 o r t₀ t p₀ p)
  where
    list_none : r ≡ Ok None → ReadsListIn sec l va n o (Ok None) t₀ t p₀ p
    list_none i = record { reads = λ room u h. list_left sec l va n room u h None (list_absent (m.reads h) i) tt }

    list_some : {x : Read} → r ≡ Ok (Some x) → ReadsListIn sec l va n o (Ok (Some x.stored.count)) t₀ t p₀ p
    list_some {x} i =
        record {
          reads =
              λ room u h.
              let c = x.stored.count in
              let g = list_at (m.reads h) i in
              let None = no_words (words_in l u.lists) h.size in
              let d = list-first sec room l u None va n (meant_rows x.stored) g.after h.lists g.is in
              let v : Gives l room.pool (read_list sec room l va n u) (meant_part (Some c)) x.used t₀ t p =
              record {
                after = g.after;
                is = g.is ∙ ap (λ (y : ℕ). done (Some (rows y c), g.after)) d.zero;
                size = g.size;
                holds = g.holds;
              } in
              list_left sec l va n room u h (Some c) v d.within;
        }

    pub list-read :
        (x : Option Read) {q : Option ℕ} → r ≡ Ok x → q ≡ option_map (λ (y : Read). y.stored.count) x →
        ReadsListIn sec l va n o (Ok q) t₀ t p₀ p
    list-read None i e = rw e (list_none i)
    list-read (Some x) i e = rw e (list_some i)
