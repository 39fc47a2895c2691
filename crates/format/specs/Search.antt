-- The name search (docs/FORMAT.md, "Joints and names"). Definitions only.
use Rattle.std.specs.Prelude.{ℕ, suc, Bool, false, cond, List, [], ◌∷◌, map, eqb}
use Rattle.std.specs.Prelude.{Option, None, Some}
use Rattle.format.specs.Result.{Res, done, ◌>>=◌}
use Rattle.format.specs.Section.{Section, Place, name_bytes}
use Rattle.format.specs.Bone.{Bone, map_name}
use Rattle.format.specs.Tables.{Room}
use Rattle.format.specs.Check.{Read, read}
use Rattle.format.specs.Hash.{rage_joaat}

-- whether a name's bytes hash to a key; a bone without a name is skipped
abbrev pub has_key : ℕ → Option (List ℕ) → Bool
has_key key None = false
has_key key (Some s) = eqb (rage_joaat s) key

-- the first position from i on whose name hashes to the key
unfoldable pub first_key : ℕ → ℕ → List (Option (List ℕ)) → Option ℕ
first_key key i [] = None
first_key key i (n ∷ ns) = cond (has_key key n) (Some i) (first_key key (suc i) ns)

-- the stored name bytes of the bones read
abbrev pub names_read : Section → Read → List (Option (List ℕ))
names_read sec r = map (λ (b : Bone Place). map_name (name_bytes sec) b.name) r.bones

abbrev pub search_from : Section → ℕ → Option Read → Option ℕ
search_from sec key None = None
search_from sec key (Some r) = first_key key 0 (names_read sec r)

-- the position of the first bone whose stored name bytes hash to a key, or none; reading's refusals
unfoldable pub search : Section → Room → ℕ → ℕ → Res (Option ℕ)
search sec room root key = do
  r ← read sec room root
  done (search_from sec key r)
