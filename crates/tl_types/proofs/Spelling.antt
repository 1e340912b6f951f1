-- What is spelled is read.
use Rattle.std.proofs.Common.{◌≡◌, ℕ, zero, suc, ◌+◌, ◌^◌, ◌≤◌, ◌<◌, List, [], ◌∷◌, ◌++◌, append_assoc, append-nil, length, Some, Ok, refl, sym, ap, ◌∙◌, arith, true, false, inl, inr, ◌⊎◌}
use Rattle.std.proofs.lemmas.List.{length-append}
use Rattle.tl_numbers.specs.Numbers.{word}
use Rattle.tl_schema.specs.Types.{Shape, Shapes}
use Rattle.tl_schema.specs.Types as type
use Rattle.tl_schema.specs.Closing.{closed, list_of_shapes}
use Rattle.tl_schema.specs.Schemas.{Slot, Declaration, Declared}
use Rattle.tl_types.specs.Values.{ValueView, ValueViews, no_values, value, list_of, depth, depth_of, count}
use Rattle.tl_types.specs.Values as view
use Rattle.tl_types.specs.Texts.{text_bytes}
use Rattle.tl_types.specs.Spelling.{Begins, vector_prefix, Spells, SpellEach, SpellFields}
use Rattle.tl_types.specs.Spelling as begins
use Rattle.tl_types.specs.Offsets.{moved}
use Rattle.tl_types.specs.inner.Reading.{Spot, spot, first_from, is_member, is_function, plain_at, deep_at, is_deep, value_at, each_at, fields_at, fields_in, record_at, bare_at}
use Rattle.tl_types.proofs.Numbers.{moved_moved, stays, exact_again, word_again, double_again}
use Rattle.tl_types.proofs.Texts.{text_again}
use Rattle.tl_types.proofs.Members.{NumbersTell, member_found, function_found, fields_there}
use Rattle.tl_types.proofs.Records.{list_again, number_step}
use Rattle.tl_types.proofs.Lists.{list_whole}

pub value_is_plain : (ds : List Declaration) (n : ℕ) (T : Shape) (s : Spot) → is_deep T ≡ false → value_at ds n T s ≡ plain_at T s
unfolding value_at
value_is_plain ds zero T s e = rw e refl
value_is_plain ds (suc n) T s e = rw e refl

pub value_is_deep : (ds : List Declaration) (n : ℕ) (T : Shape) (s : Spot) → is_deep T ≡ true → value_at ds (suc n) T s ≡ deep_at ds (value_at ds n) T s
unfolding value_at
value_is_deep ds n T s e = rw e refl

-- a record after its prefix
node_whole : (schema : Declared) → NumbersTell schema → (n : ℕ) (T : Shape) (i p : ℕ) (d : Declaration) (args : Shapes) (prefix more : List ℕ) (vs : ValueViews) (r : Spot) → p < 2 ^ 64 → Begins schema T i d args prefix
    → fields_at (value_at schema.decls n) (list_of_shapes args) [] d.fields (spot (moved p (length prefix)) more) ≡ Ok (list_of vs, r) → value_at schema.decls (suc n) T (spot p (prefix ++ more)) ≡ Ok (view.node i vs, r)
unfolding deep_at bare_at record_at
node_whole schema tell n T i p d args prefix more vs r lt (begins.boxed h e m is) fields =
    let four : length prefix ≡ 4 = ap length is in
    ap (λ (U : Shape). value_at schema.decls (suc n) U (spot p (prefix ++ more))) e ∙ value_is_deep schema.decls n (type.boxed h args) _ refl
    ∙ ap (λ (x : List ℕ). deep_at schema.decls (value_at schema.decls n) (type.boxed h args) (spot p (x ++ more))) is
    ∙ number_step (fields_at (value_at schema.decls n) (list_of_shapes args) []) view.node schema.decls (λ w. first_from (is_member h w) 0 schema.decls) p d.number i more d.fields vs r
    (tell.fits i d m.there) (member_found schema tell h i d m) (fields_there schema.decls i d m.there) (rw four at fields)
node_whole schema tell n T i p d args prefix more vs r lt (begins.bare e there is) fields =
    let none : length prefix ≡ 0 = ap length is in
    let here : moved p 0 ≡ p = omega (arith, lt) in
    ap (λ (U : Shape). value_at schema.decls (suc n) U (spot p (prefix ++ more))) e ∙ value_is_deep schema.decls n (type.bare i args) _ refl
    ∙ ap (λ (x : List ℕ). deep_at schema.decls (value_at schema.decls n) (type.bare i args) (spot p (x ++ more))) is
    ∙ rw (fields_there schema.decls i d there, rw (none, here) at fields, list_again vs) refl

call_step : (schema : Declared) (n p w i : ℕ) (rest : List ℕ) (ks : List Slot) (vs : ValueViews) (r : Spot) → w < 2 ^ 32 → first_from (is_function w) 0 schema.decls ≡ Some i → fields_in schema.decls i ≡ ks
    → fields_at (value_at schema.decls n) [] [] ks (spot (moved p 4) rest) ≡ Ok (list_of vs, r) → deep_at schema.decls (value_at schema.decls n) type.call (spot p (word w ++ rest)) ≡ Ok (view.call i vs, r)
unfolding deep_at
call_step schema n p w i rest ks vs r lt some slots fields =
    number_step (fields_at (value_at schema.decls n) [] []) view.call schema.decls (λ k. first_from (is_function k) 0 schema.decls) p w i rest ks vs r lt some slots fields

text_type : (T : Shape) (p : ℕ) (s rest : List ℕ) → length s < 2 ^ 24 → (T ≡ type.str) ⊎ (T ≡ type.raw) → (is_deep T ≡ false) × (plain_at T (spot p (text_bytes s ++ rest)) ≡ Ok (view.text s, spot (moved p (length (text_bytes s))) rest))
unfolding plain_at
text_type T p s rest few (inl e) = (ap is_deep e, ap (λ (U : Shape). plain_at U (spot p (text_bytes s ++ rest))) e ∙ rw (text_again s p rest few) refl)
text_type T p s rest few (inr e) = (ap is_deep e, ap (λ (U : Shape). plain_at U (spot p (text_bytes s ++ rest))) e ∙ rw (text_again s p rest few) refl)

mutual
  unfolding plain_at each_at fields_at

  pub spelled : (schema : Declared) → NumbersTell schema → (x : ValueView) (T : Shape) (n : ℕ) (b rest : List ℕ) (p : ℕ) → p < 2 ^ 64 → Spells schema T x b → depth x ≤ n → value_at schema.decls n T (spot p (b ++ rest)) ≡ Ok (x, spot (moved p (length b)) rest)
  spelled schema tell (view.int z) T n b rest p lt s deep =
      rw (ap length s.4, s.3) (ap (λ (U : Shape). value_at schema.decls n U (spot p (b ++ rest))) s.0 ∙ value_is_plain schema.decls n type.int _ refl ∙ ap (λ (x : List ℕ). plain_at type.int (spot p (x ++ rest))) s.4 ∙ rw (word_again s.1 p rest s.2) refl)
  spelled schema tell (view.long z) T n b rest p lt s deep =
      rw (ap length s.4, s.3) (ap (λ (U : Shape). value_at schema.decls n U (spot p (b ++ rest))) s.0 ∙ value_is_plain schema.decls n type.long _ refl ∙ ap (λ (x : List ℕ). plain_at type.long (spot p (x ++ rest))) s.4 ∙ rw (double_again s.1 p rest s.2) refl)
  spelled schema tell (view.nat k) T n b rest p lt s deep =
      rw (ap length s.2) (ap (λ (U : Shape). value_at schema.decls n U (spot p (b ++ rest))) s.0 ∙ value_is_plain schema.decls n type.nat _ refl ∙ ap (λ (x : List ℕ). plain_at type.nat (spot p (x ++ rest))) s.2 ∙ rw (word_again k p rest s.1) refl)
  spelled schema tell (view.opaque xs) T n b rest p lt s deep =
      rw s.1 (ap (λ (U : Shape). value_at schema.decls n U (spot p (xs ++ rest))) s.0 ∙ value_is_plain schema.decls n (type.opaque (length xs)) _ refl ∙ rw (exact_again p p xs rest (length xs) refl) refl)
  spelled schema tell (view.text xs) T n b rest p lt s deep =
      let both = text_type T p xs rest s.1 s.0 in
      rw s.2 (value_is_plain schema.decls n T _ both.0 ∙ both.1)
  spelled schema tell view.truth T n b rest p lt s deep =
      rw s.1 (ap (λ (U : Shape). value_at schema.decls n U (spot p rest)) s.0 ∙ value_is_plain schema.decls n type.flag _ refl ∙ ap (λ (q : ℕ). Ok (view.truth, spot q rest)) (stays p lt))
  spelled schema tell view.absent T n b rest p lt s deep = absurd s
  spelled schema tell (view.list vs) T zero b rest p lt s deep = absurd (omega arith)
  spelled schema tell (view.list vs) T (suc n) b rest p lt s deep =
      let prefix = vector_prefix s.0 in
      let r = s.2 in
      let len : length b ≡ (length prefix + 4) + length r = ap length s.5 ∙ length-append (prefix ++ word (count vs)) r ∙ ap (λ (k : ℕ). k + length r) (length-append prefix (word (count vs))) in
      let split : b ++ rest ≡ prefix ++ (word (count vs) ++ (r ++ rest)) = ap (λ (x : List ℕ). x ++ rest) s.5 ∙ append_assoc (prefix ++ word (count vs)) r rest ∙ append_assoc prefix (word (count vs)) (r ++ rest) in
      let each = spelled_each schema tell vs s.1 n [] r rest (moved p (length prefix + 4)) (omega arith) s.6 (omega arith) in
      rw (← moved_moved p (length prefix + 4) (length r) (length b) len)
      (ap (λ (U : Shape). value_at schema.decls (suc n) U (spot p (b ++ rest))) s.3 ∙ value_is_deep schema.decls n (type.vector s.0 s.1) _ refl ∙ ap (λ (x : List ℕ). deep_at schema.decls (value_at schema.decls n) (type.vector s.0 s.1) (spot p x)) split
      ∙ list_whole schema.decls (value_at schema.decls n) s.0 s.1 p (count vs) (r ++ rest) vs _ lt s.4 each)
  spelled schema tell (view.node i vs) T zero b rest p lt s deep = absurd (omega arith)
  spelled schema tell (view.node i vs) T (suc n) b rest p lt s deep =
      let prefix = s.2 in
      let r = s.3 in
      let len : length b ≡ length prefix + length r = ap length s.5 ∙ length-append prefix r in
      let split : b ++ rest ≡ prefix ++ (r ++ rest) = ap (λ (x : List ℕ). x ++ rest) s.5 ∙ append_assoc prefix r rest in
      let fields = spelled_fields schema tell vs (list_of_shapes s.1) [] (s.0).fields n r rest (moved p (length prefix)) (omega arith) s.6 (omega arith) in
      rw (← moved_moved p (length prefix) (length r) (length b) len)
      (ap (λ (x : List ℕ). value_at schema.decls (suc n) T (spot p x)) split ∙ node_whole schema tell n T i p s.0 s.1 prefix (r ++ rest) vs _ lt s.4 fields)
  spelled schema tell (view.call i vs) T zero b rest p lt s deep = absurd (omega arith)
  spelled schema tell (view.call i vs) T (suc n) b rest p lt s deep =
      let d = s.0 in
      let r = s.1 in
      let len : length b ≡ 4 + length r = ap length s.4 ∙ length-append (word d.number) r in
      let split : b ++ rest ≡ word d.number ++ (r ++ rest) = ap (λ (x : List ℕ). x ++ rest) s.4 ∙ append_assoc (word d.number) r rest in
      let fields = spelled_fields schema tell vs [] [] d.fields n r rest (moved p 4) (omega arith) s.5 (omega arith) in
      rw (← moved_moved p 4 (length r) (length b) len)
      (ap (λ (U : Shape). value_at schema.decls (suc n) U (spot p (b ++ rest))) s.2 ∙ value_is_deep schema.decls n type.call _ refl ∙ ap (λ (x : List ℕ). deep_at schema.decls (value_at schema.decls n) type.call (spot p x)) split ∙ call_step schema n p d.number i (r ++ rest) d.fields vs _ (tell.fits i d s.3.there) (function_found schema tell i d s.3) (fields_there schema.decls i d s.3.there) fields)

  spelled_each : (schema : Declared) → NumbersTell schema → (vs : ValueViews) (T : Shape) (n : ℕ) (before : List ValueView) (b rest : List ℕ) (p : ℕ) → p < 2 ^ 64 → SpellEach schema T vs b → depth_of vs ≤ n → each_at (value_at schema.decls n T) (count vs) before (spot p (b ++ rest)) ≡ Ok (before ++ list_of vs, spot (moved p (length b)) rest)
  spelled_each schema tell no_values T n before b rest p lt s deep = rw s (ap (λ (q : ℕ). Ok (before, spot q rest)) (stays p lt) ∙ ap (λ (l : List ValueView). Ok (l, spot (moved p 0) rest)) (sym (append-nil before)))
  spelled_each schema tell (value x vs) T n before b rest p lt s deep =
      let u = s.0 in
      let v = s.1 in
      let len : length b ≡ length u + length v = ap length s.2 ∙ length-append u v in
      let split : b ++ rest ≡ u ++ (v ++ rest) = ap (λ (z : List ℕ). z ++ rest) s.2 ∙ append_assoc u v rest in
      let first = spelled schema tell x T n u (v ++ rest) p lt s.3 (omega arith) in
      let others = spelled_each schema tell vs T n (before ++ x ∷ []) v rest (moved p (length u)) (omega arith) s.4 (omega arith) in
      rw (← moved_moved p (length u) (length v) (length b) len) (ap (λ (z : List ℕ). each_at (value_at schema.decls n T) (suc (count vs)) before (spot p z)) split ∙ rw (first, others, append_assoc before (x ∷ []) (list_of vs)) refl)

  spelled_fields : (schema : Declared) → NumbersTell schema → (vs : ValueViews) (args : List Shape) (before : List ValueView) (fs : List Slot) (n : ℕ) (b rest : List ℕ) (p : ℕ) → p < 2 ^ 64 → SpellFields schema args before fs vs b → depth_of vs ≤ n → fields_at (value_at schema.decls n) args before fs (spot p (b ++ rest)) ≡ Ok (before ++ list_of vs, spot (moved p (length b)) rest)
  spelled_fields schema tell no_values args before [] n b rest p lt s deep = rw s (ap (λ (q : ℕ). Ok (before, spot q rest)) (stays p lt) ∙ ap (λ (l : List ValueView). Ok (l, spot (moved p 0) rest)) (sym (append-nil before)))
  spelled_fields schema tell (value x vs) args before (f ∷ fs) n b rest p lt (u, v, is, inl (set, sp), more) deep =
      let len : length b ≡ length u + length v = ap length is ∙ length-append u v in
      let split : b ++ rest ≡ u ++ (v ++ rest) = ap (λ (z : List ℕ). z ++ rest) is ∙ append_assoc u v rest in
      let first = spelled schema tell x (closed args f.of) n u (v ++ rest) p lt sp (omega arith) in
      let others = spelled_fields schema tell vs args (before ++ x ∷ []) fs n v rest (moved p (length u)) (omega arith) more (omega arith) in
      rw (← moved_moved p (length u) (length v) (length b) len) (ap (λ (z : List ℕ). fields_at (value_at schema.decls n) args before (f ∷ fs) (spot p z)) split ∙ rw (set, first, others, append_assoc before (x ∷ []) (list_of vs)) refl)
  spelled_fields schema tell (value x vs) args before (f ∷ fs) n b rest p lt (u, v, is, inr (clear, none, empty), more) deep =
      let same : b ≡ v = is ∙ ap (λ (z : List ℕ). z ++ v) empty in
      let others = spelled_fields schema tell vs args (before ++ x ∷ []) fs n v rest p lt more (omega arith) in
      rw same (rw clear (rw (← none) (others ∙ ap (λ (l : List ValueView). Ok (l, spot (moved p (length v)) rest)) (append_assoc before (x ∷ []) (list_of vs)))))
  spelled_fields schema tell no_values args before (f ∷ fs) n b rest p lt s deep = absurd s
  spelled_fields schema tell (value x vs) args before [] n b rest p lt s deep = absurd s
