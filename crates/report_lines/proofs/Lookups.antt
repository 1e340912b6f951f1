-- Channels in order, each looked up by its id.
use Rattle.std.proofs.Common.{◌≡◌, ℕ, zero, suc, ◌+◌, ◌<◌, ◌≤◌, ℤ, List, [], ◌∷◌, ◌++◌, length, take, drop, get_or, Option, Some, append-nil, refl, sym, ap, ◌∙◌, subst, arith}
use native.Mathlib.Numerals.{add-one}
use Rattle.channel_box.specs.States.{ChannelState, ids_of, AreDistinct, has_id, first}
use Rattle.box_client.proofs.Savings.{here}
use Rattle.report_lines.proofs.Puts.{next}
use Rattle.box_client.proofs.Savings.{get_again}

drop_here : (cs : List ChannelState) (i : ℕ) (c : ChannelState) → take (suc i) cs ≡ take i cs ++ c ∷ [] → drop i cs ≡ c ∷ drop (suc i) cs
drop_here [] zero c e = absurd cc
drop_here [] (suc i) c e = absurd cc
drop_here (x ∷ xs) zero c e = cc
drop_here (x ∷ xs) (suc i) c e = drop_here xs i c cc

-- a text of channels is that of each in turn
abbrev pub IsInTurn : (List ChannelState → List ℕ) → (ℤ → Option ChannelState → List ℕ) → Type 0
IsInTurn all one = (c : ChannelState) (cs : List ChannelState) → all (c ∷ cs) ≡ one c.id (Some c) ++ all cs

pub put_next : (all : List ChannelState → List ℕ) (one : ℤ → Option ChannelState → List ℕ) → IsInTurn all one → (cs : List ChannelState) (ks : List ℤ) (i : ℕ) (d id : ℤ) (before after whole : List ℕ) → ks ≡ ids_of cs → AreDistinct ks → i < length ks → id ≡ get_or ks i d
    → before ++ all (drop i cs) ≡ whole → after ≡ before ++ one id (first (has_id id) cs) → after ++ all (drop (i + 1) cs) ≡ whole
put_next all one turn cs ks i d id before after whole is apart lt at so put =
    let here_at : id ≡ get_or ks i id = at ∙ get_again ks i d lt ∙ ap (λ (z : ℤ). get_or ks i z) (sym at) in
    let h = here cs i id (subst AreDistinct is apart) (omega (arith, lt, ap length is)) (here_at ∙ ap (λ (l : List ℤ). get_or l i id) is) in
    let parts : all (drop i cs) ≡ one h.channel.id (Some h.channel) ++ all (drop (suc i) cs) = ap all (drop_here cs i h.channel h.next) ∙ turn h.channel (drop (suc i) cs) in
    let mine : after ≡ before ++ one h.channel.id (Some h.channel) = put ∙ ap (λ (o : Option ChannelState). before ++ one id o) h.found ∙ ap (λ (z : ℤ). before ++ one z (Some h.channel)) (sym h.same) in
    ap (λ (k : ℕ). after ++ all (drop k cs)) (add-one i) ∙ next before after (one h.channel.id (Some h.channel)) (all (drop (suc i) cs)) whole (ap (λ (t : List ℕ). before ++ t) (sym parts) ∙ so) mine

all_gone : (cs : List ChannelState) (n : ℕ) → length (ids_of cs) ≤ n → drop n cs ≡ []
all_gone [] zero le = refl
all_gone [] (suc n) le = refl
all_gone (c ∷ cs) zero le = absurd (omega (arith, le))
all_gone (c ∷ cs) (suc n) le = all_gone cs n (omega (arith, le))

pub put_all : (all : List ChannelState → List ℕ) → all [] ≡ [] → (cs : List ChannelState) (ks : List ℤ) (n : ℕ) (before whole : List ℕ) → ks ≡ ids_of cs → length ks ≤ n → before ++ all (drop n cs) ≡ whole → before ≡ whole
put_all all none cs ks n before whole is le so =
    sym (append-nil before) ∙ ap (λ (t : List ℕ). before ++ t) (sym none ∙ ap all (sym (all_gone cs n (omega (arith, le, ap length is))))) ∙ so
