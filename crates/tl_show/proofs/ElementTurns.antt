-- The elements of a list, read from its text one after the other.
use Rattle.std.proofs.Common.{◌≡◌, ℕ, suc, List, [], ◌∷◌, ◌++◌, length, map, Option, Some, Ok, sym, ap, ap₂, ◌∙◌, arith}
use Rattle.std.proofs.lemmas.List.{length-append, map-append}
use Rattle.json.specs.Token.{Token}
use Rattle.json.specs.Json.{parse_map}
use Rattle.serde_json.specs.Data.{Data, Items, no_items, item}
use Rattle.tl_schema.specs.Types.{Shape}
use Rattle.tl_schema.specs.Schemas.{Declaration}
use Rattle.tl_types.specs.Values.{ValueView}
use Rattle.tl_types.specs.Seen.{view}
use Rattle.tl_types.specs.declared.value.Value.{Value}
use Rattle.tl_show.specs.Reading.{Read, ◌>>=◌, each_element, inside, reader, readers}

module _ (ds : List Declaration) (T : Shape) where
  -- however the list goes on from here: it is a list from its start on, and what is read of it is what is read on
  abbrev pub Goes : Option (Items × List Token) → Option (Items × List Token) → List Value → Type 0
  Goes whole now vs =
      (o : Items) (r : List Token) → now ≡ Some (o, r)
      → (is : Items) × (whole ≡ Some (is, r)) × (each_element 0 T [] (readers ds is) ≡ each_element (length vs) T (map view vs) (readers ds o))

  pub begins : (vs : List Value) (now : Option (Items × List Token)) → vs ≡ [] → Goes now now vs
  begins vs now none = λ o r e. (o, e, ap (λ (xs : List Value). each_element (length xs) T (map view xs) (readers ds o)) (sym none))

  one_more : (vs ws : List Value) (v : Value) (d : Data) (o : Items) → reader ds d T ≡ Ok (view v) → ws ≡ vs ++ v ∷ []
      → each_element (length vs) T (map view vs) (readers ds (item d o)) ≡ each_element (length ws) T (map view ws) (readers ds o)
  one_more vs ws v d o reads pushed =
      let rest : ValueView → Read (List ValueView) = λ x. each_element (suc (length vs)) T (map view vs ++ x ∷ []) (readers ds o) in
      let here = ap (λ (r : Read ValueView). inside (length vs) r >>= rest) reads in
      let count : suc (length vs) ≡ length ws = omega (arith, ap (λ (xs : List Value). length xs) pushed, length-append vs (v ∷ [])) in
      let seen : map view vs ++ view v ∷ [] ≡ map view ws = sym (map-append view vs (v ∷ [])) ∙ ap (map view) (sym pushed) in
      here ∙ ap₂ (λ (n : ℕ) (xs : List ValueView). each_element n T xs (readers ds o)) count seen

  pub goes_on : (whole now next : Option (Items × List Token)) (vs ws : List Value) (v : Value) (d : Data) → Goes whole now vs → now ≡ parse_map (item d) next
      → reader ds d T ≡ Ok (view v) → ws ≡ vs ++ v ∷ [] → Goes whole next ws
  goes_on whole now next vs ws v d goes turn reads pushed = λ o r e.
      let found = goes (item d o) r (turn ∙ ap (parse_map (item d)) e) in
      (found.0, found.1, found.2 ∙ one_more vs ws v d o reads pushed)

  pub ends : (whole now : Option (Items × List Token)) (vs : List Value) (r : List Token) → Goes whole now vs → now ≡ Some (no_items, r)
      → (is : Items) × (whole ≡ Some (is, r)) × (each_element 0 T [] (readers ds is) ≡ Ok (map view vs))
  ends whole now vs r goes over = goes no_items r over
