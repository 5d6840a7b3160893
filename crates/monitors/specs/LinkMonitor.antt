-- What the monitor of a linked role is seen as, and what it hears.
use Rattle.std.specs.Prelude.{Bool, true, false, List, [], ◌∷◌, ◌++◌, ◌≡◌, Contains}

-- what a linked role was told, of entities by key: entities on its base, and entities by way of these, in order
pub record LinkToldBy (K : Type 0) : Type 0 where
  pub bases : List K
  pub members : List K

module _ {K : Type 0} where
  -- the key is among those that were told now, at their end, and the answer says whether that is new: a repeat changes nothing
  abbrev pub AddsKey : List K → List K → K → Bool → Type 0
  AddsKey old new key true = (Contains old key → ⊥) × (new ≡ old ++ key ∷ [])
  AddsKey old new key false = Contains old key × (new ≡ old)

  -- the base has this member now
  abbrev pub HearsBase : LinkToldBy K → LinkToldBy K → K → Bool → Type 0
  HearsBase old new base is_new = AddsKey old.bases new.bases base is_new × (new.members ≡ old.members)

  -- the linked role has this member now
  abbrev pub HearsVia : LinkToldBy K → LinkToldBy K → K → Bool → Type 0
  HearsVia old new who is_new = AddsKey old.members new.members who is_new × (new.bases ≡ old.bases)
