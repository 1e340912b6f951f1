-- The ids of channels stay, and non two are one.
use Rattle.std.proofs.Common.{◌≡◌, ℕ, zero, suc, ◌+◌, ℤ, List, [], ◌∷◌, ◌++◌, length, map, get_or, set, Bool, true, false, ◌||◌, cond, is_some, Option, Some, refl, sym, ap, ap₂, ◌∙◌, int_eq, arith, true≢false}
use Rattle.std.proofs.lemmas.Bool.Decides.{Decides-int_eq}
use Rattle.channel_box.specs.States.{ChannelState, ChannelView, states, ids_of, is_in, AreDistinct, has_id, first}
use Rattle.channel_box.specs.Steps.{is_watched, Ticked, ticked, and_asks, and_waits, channel_is_due}

pub ids_set : (vs : List ChannelView) (i : ℕ) (x y : ChannelView) → x ≡ get_or vs i x → y.state.id ≡ x.state.id → ids_of (states (set vs i y)) ≡ ids_of (states vs)
ids_set [] i x y is same = refl
ids_set (v ∷ vs) zero x y is same = ap (λ (k : ℤ). k ∷ ids_of (states vs)) (same ∙ ap (λ (z : ChannelView). z.state.id) is)
ids_set (v ∷ vs) (suc i) x y is same = ap (λ (ks : List ℤ). v.state.id ∷ ks) (ids_set vs i x y is same)

pub ids_map : (f : ChannelState → ChannelState) → ((c : ChannelState) → (f c).id ≡ c.id) → (cs : List ChannelState) → ids_of (map f cs) ≡ ids_of cs
ids_map f same [] = refl
ids_map f same (c ∷ cs) = ap₂ (λ (k : ℤ) (ks : List ℤ). k ∷ ks) (same c) (ids_map f same cs)

ids_cond : (b : Bool) (n : ℕ) (c : ChannelState) (t u : Ticked) → ids_of (cond b (and_asks n c t) (and_waits c u)).channels ≡ c.id ∷ cond b (ids_of t.channels) (ids_of u.channels)
ids_cond true n c t u = refl
ids_cond false n c t u = refl

cond_same : {A : Type 0} (b : Bool) (x y z : A) → x ≡ z → y ≡ z → cond b x y ≡ z
cond_same true x y z p q = p
cond_same false x y z p q = q

pub ids_ticked : (n : ℕ) (cs : List ChannelState) → ids_of (ticked n cs).channels ≡ ids_of cs
ids_ticked n [] = refl
ids_ticked n (c ∷ cs) =
    ids_cond (channel_is_due c) n c (ticked (n + 1) cs) (ticked n cs)
    ∙ ap (λ (ks : List ℤ). c.id ∷ ks) (cond_same (channel_is_due c) (ids_of (ticked (n + 1) cs).channels) (ids_of (ticked n cs).channels) (ids_of cs) (ids_ticked (n + 1) cs) (ids_ticked n cs))

some_over : (b : Bool) (c : ChannelState) (o : Option ChannelState) → is_some (cond b (Some c) o) ≡ (b || is_some o)
some_over true c o = refl
some_over false c o = refl

pub watched_ids : (cs : List ChannelState) (id : ℤ) → is_watched cs id ≡ is_in id (ids_of cs)
watched_ids [] id = refl
watched_ids (c ∷ cs) id = some_over (int_eq c.id id) c (first (has_id id) cs) ∙ ap (λ (b : Bool). int_eq c.id id || b) (watched_ids cs id)

neither : (a b : Bool) → (a || b) ≡ false → (a ≡ false) × (b ≡ false)
neither true b e = absurd cc
neither false b e = (refl, e)

both_no : (a b : Bool) → a ≡ false → b ≡ false → (a || b) ≡ false
both_no a b p q = rw (p, q) refl

no_of : (b : Bool) → (b ≡ true → ⊥) → b ≡ false
no_of true h = absurd (h refl)
no_of false h = refl

pub eq_of : (a b : ℤ) → int_eq a b ≡ true → a ≡ b
eq_of a b e = (Decides-int_eq a b).0 e

pub not_eq : (a b : ℤ) → (a ≡ b → ⊥) → int_eq a b ≡ false
not_eq a b h = no_of (int_eq a b) (λ e. h (eq_of a b e))

pub not_of : (a b : ℤ) → int_eq a b ≡ false → a ≡ b → ⊥
not_of a b non is = true≢false (sym ((Decides-int_eq a b).1 is) ∙ non)

is_in_last : (id k : ℤ) (ks : List ℤ) → is_in id ks ≡ false → int_eq k id ≡ false → is_in id (ks ++ k ∷ []) ≡ false
is_in_last id k [] non last = both_no (int_eq k id) false last refl
is_in_last id k (j ∷ ks) non last =
    let n = neither (int_eq j id) (is_in id ks) non in
    both_no (int_eq j id) (is_in id (ks ++ k ∷ [])) n.0 (is_in_last id k ks n.1 last)

pub distinct_last : (ks : List ℤ) (id : ℤ) → AreDistinct ks → is_in id ks ≡ false → AreDistinct (ks ++ id ∷ [])
distinct_last [] id d non = (refl, tt)
distinct_last (k ∷ ks) id d non =
    let n = neither (int_eq k id) (is_in id ks) non in
    (is_in_last k id ks d.0 (not_eq id k (λ e. not_of k id n.0 (sym e))), distinct_last ks id d.1 n.1)

pub length_ids : (vs : List ChannelView) → length (ids_of (states vs)) ≡ length vs
length_ids [] = refl
length_ids (v ∷ vs) = omega (arith, length_ids vs)

pub ids_last : (vs : List ChannelView) (v : ChannelView) → ids_of (states (vs ++ v ∷ [])) ≡ ids_of (states vs) ++ v.state.id ∷ []
ids_last [] v = refl
ids_last (x ∷ vs) v = ap (λ (ks : List ℤ). x.state.id ∷ ks) (ids_last vs v)

pub states_last : (vs : List ChannelView) (v : ChannelView) → states (vs ++ v ∷ []) ≡ states vs ++ v.state ∷ []
states_last [] v = refl
states_last (x ∷ vs) v = ap (λ (cs : List ChannelState). x.state ∷ cs) (states_last vs v)
