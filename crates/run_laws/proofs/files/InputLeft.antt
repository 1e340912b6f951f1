-- What is told of an input that is read piece by piece is what its bytes say.
use Rattle.std.proofs.Common.{◌≡◌, ℕ, List, [], ◌∷◌, ◌++◌, append-nil, append_assoc, Err, refl, sym, ap, ◌∙◌, subst, arith}
use Rattle.std.specs.Prelude.{IfSome}
use Rattle.tl_base.specs.Outside.{left_of}
use Rattle.tl_base.specs.declared.host.Slot.TheVariants.{Input}
use Rattle.tl_schema.specs.Schemas.{Declared}
use Rattle.tl_schema.specs.Types.{Shape}
use Rattle.tl_types.specs.declared.cause.Cause.TheVariants.{Truncated}
use Rattle.tl_types.specs.declared.value.TheConstants.{MAX_LEVELS}
use Rattle.tl_decode.specs.declared.whole.WholeFault.{WholeFault}
use Rattle.tl_decode.specs.declared.whole.WholeFault.TheVariants as whole
use Rattle.outside.specs.Events.{Event, Outside, took}
use Rattle.outside.specs.Steps.{Turn, again, leave, Reaches, here, turn}
use Rattle.outside.specs.Fits.{Fits}
use Rattle.outside.proofs.Fitting.{fits_both}
use Rattle.codec_commands.specs.Decode.{OfInput}
use Rattle.codec_commands.specs.Decode as answer
use Rattle.codec_rooms.specs.Decode.{Verdict, Decides, faulty, longer, HasVerdict, cut_off, is_value, ReadsOn, more, decided, at_end, failed, ReadsValue, at_once, reads, answer_of}
use Rattle.run_laws.proofs.files.RefusedLonger.{refused_longer}
use Rattle.codec_rooms.proofs.InputLeft.{left_is}

-- ---- turns

abbrev going : List ℕ → Turn (List ℕ) Verdict → List ℕ
going s (again n) = n
going s (leave a) = s

again_is : {s n : List ℕ} → ◌≡◌ {A = Turn (List ℕ) Verdict} (again s) (again n) → s ≡ n
again_is {s} {n} is = ap (going n) is

piece_left : (piece : List ℕ) (t : List Event) (s n : Outside) → t ≡ took Input piece ∷ [] → Fits t s n → left_of Input s.view ≡ piece ++ left_of Input n.view
piece_left piece t s n is f =
    let g = subst (λ (l : List Event). Fits l s n) is f in
    g.1.0 ∙ ap (λ (o : Outside). piece ++ left_of Input o.view) (sym g.2)

module _ (D : Declared) (T : Shape) where
  -- ---- what was taken, and what is left

  turn_left : (bytes next : List ℕ) (t : List Event) (x : Turn (List ℕ) Verdict) (s n : Outside) → ReadsOn D T bytes t x → x ≡ again next → Fits t s n
      → bytes ++ left_of Input s.view ≡ next ++ left_of Input n.view
  turn_left bytes next t _ s n (more piece is o) at f =
      ap (λ (l : List ℕ). bytes ++ l) (piece_left piece t s n is f) ∙ (sym (append_assoc bytes piece (left_of Input n.view)) ∙ ap (λ (l : List ℕ). l ++ left_of Input n.view) (again_is at))
  turn_left bytes next t _ s n (decided piece why is d) at f = absurd (let no : leave (Err why) ≡ again next = at in cc)
  turn_left bytes next t _ s n (at_end r is h) at f = absurd (let no : leave r ≡ again next = at in cc)
  turn_left bytes next t _ s n (failed is) at f = absurd (let no : leave (Err whole.ReadFault) ≡ again next = at in cc)

  reached_left : (t : List Event) (bytes : List ℕ) (s n : Outside) → Reaches (ReadsOn D T) [] t bytes → Fits t s n → left_of Input s.view ≡ bytes ++ left_of Input n.view
  reached_left t bytes s n (here _ _ none is) f =
      ap (λ (o : Outside). left_of Input o.view) (sym (subst (λ (l : List Event). Fits l s n) none f)) ∙ ap (λ (l : List ℕ). l ++ left_of Input n.view) (sym is)
  reached_left t bytes s n (turn _ first rest between _ splits before this) f =
      let parts = fits_both first rest s n (subst (λ (l : List Event). Fits l s n) splits f) in
      reached_left first between s parts.0 before parts.1 ∙ turn_left between bytes rest (again bytes) parts.0 n this refl parts.2

  -- ---- what is answered

  -- where the verdict has an answer, that is one to these bytes
  abbrev pub IsMeant : Verdict → List ℕ → Type 0
  IsMeant r bytes = IfSome (answer_of D T r) (OfInput D T bytes)

  decides_meant : (bytes rest : List ℕ) (why : WholeFault) → Decides D T bytes why → IsMeant (Err why) (bytes ++ rest)
  decides_meant bytes rest _ (faulty offset cause other r) = answer.faulty offset cause (refused_longer D rest cause other MAX_LEVELS T bytes offset r) refl
  decides_meant bytes rest _ (longer v x [] split some spells deep) = absurd (omega (arith, some))
  decides_meant bytes rest _ (longer v x (b ∷ after) split some spells deep) =
      answer.longer v x (after ++ rest) b (ap (λ (l : List ℕ). l ++ rest) split ∙ append_assoc x (b ∷ after) rest) spells deep refl

  verdict_meant : (bytes : List ℕ) (r : Verdict) → HasVerdict D T bytes r → IsMeant r bytes
  verdict_meant bytes _ (cut_off offset r) = answer.faulty offset Truncated r refl
  verdict_meant bytes _ (is_value v spells deep) = answer.whole v spells deep refl

  turn_meant : (bytes : List ℕ) (t : List Event) (x : Turn (List ℕ) Verdict) (r : Verdict) (s n : Outside) → ReadsOn D T bytes t x → x ≡ leave r → Fits t s n
      → IsMeant r (bytes ++ left_of Input s.view)
  turn_meant bytes t _ r s n (more piece is o) at f = absurd (let no : again (bytes ++ piece) ≡ leave r = at in cc)
  turn_meant bytes t _ r s n (decided piece why is d) at f =
      let all : (bytes ++ piece) ++ left_of Input n.view ≡ bytes ++ left_of Input s.view =
      append_assoc bytes piece (left_of Input n.view) ∙ ap (λ (l : List ℕ). bytes ++ l) (sym (piece_left piece t s n is f)) in
      subst (λ (v : Verdict). IsMeant v (bytes ++ left_of Input s.view)) (left_is at) (subst (IsMeant (Err why)) all (decides_meant (bytes ++ piece) (left_of Input n.view) why d))
  turn_meant bytes t _ r s n (at_end e is h) at f =
      let g = subst (λ (l : List Event). Fits l s n) is f in
      let all : bytes ≡ bytes ++ left_of Input s.view = sym (ap (λ (l : List ℕ). bytes ++ l) g.1.0 ∙ append-nil bytes) in
      subst (λ (v : Verdict). IsMeant v (bytes ++ left_of Input s.view)) (left_is at) (subst (IsMeant e) all (verdict_meant bytes e h))
  turn_meant bytes t _ r s n (failed is) at f = subst (λ (v : Verdict). IsMeant v (bytes ++ left_of Input s.view)) (left_is at) tt

  pub value_meant : (t : List Event) (r : Verdict) (s n : Outside) → ReadsValue D T t r → Fits t s n → IsMeant r (left_of Input s.view)
  value_meant t r s n (at_once why none d is) f = subst (λ (v : Verdict). IsMeant v (left_of Input s.view)) (sym is) (decides_meant [] (left_of Input s.view) why d)
  value_meant t r s n (reads o h) f =
      let parts = fits_both h.first h.rest s n (subst (λ (l : List Event). Fits l s n) h.splits f) in
      subst (IsMeant r) (sym (reached_left h.first h.between s parts.0 h.does parts.1)) (turn_meant h.between h.rest (leave r) r parts.0 n h.goes refl parts.2)
