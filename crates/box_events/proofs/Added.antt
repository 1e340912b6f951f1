-- Parts with an event more.
use Rattle.std.proofs.Common.{◌≡◌, ℕ, ◌+◌, List, [], ◌∷◌, ◌++◌, true, false, refl, sym, ap, ◌∙◌, subst, arith, append-nil}
use Rattle.box_events.specs.Events.{EventView, count_of, body_of, is_new}
use Rattle.box_events.specs.declared.updates.Placed.{Placed}
use Rattle.box_events.specs.Weaving.{Woven, bodies, others_from, ends_at}
use Rattle.box_events.specs.inner.Merging.{merged}
use Rattle.box_events.proofs.Merged.{new_first, other_first}
use Rattle.box_events.proofs.Once.{merged_is}
use Rattle.box_events.proofs.Joined.{joins}

-- the parts are those of the list with one event more
pub record Grows (from at : ℕ) (news : List (List ℕ)) (others : List Placed) (e : EventView) (n : ℕ) (news2 : List (List ℕ)) (others2 : List Placed) : Type 0 where
  pub woven : Woven from (at + n) news2 others2 (merged from news2 others2)
  pub events : merged from news2 others2 ≡ merged from news others ++ e ∷ []

grows : (from at : ℕ) (news : List (List ℕ)) (others : List Placed) (e : EventView) (n : ℕ) (news2 : List (List ℕ)) (others2 : List Placed)
    → n ≡ count_of e → news2 ≡ news ++ bodies (e ∷ []) → others2 ≡ others ++ others_from at (e ∷ []) → Woven from at news others (merged from news others) → Grows from at news others e n news2 others2
grows from at news others e n news2 others2 count more_news more_others w =
    let one : Woven at (at + n) (bodies (e ∷ [])) (others_from at (e ∷ [])) (e ∷ []) = record { sum = omega (arith, count); messages = refl; rest = refl } in
    let both = joins from at (at + n) news (bodies (e ∷ [])) others (others_from at (e ∷ [])) (merged from news others) (e ∷ []) w one in
    let all : Woven from (at + n) news2 others2 (merged from news others ++ e ∷ []) =
    subst (λ (l : List Placed). Woven from (at + n) news2 l (merged from news others ++ e ∷ [])) (sym more_others)
    (subst (λ (l : List (List ℕ)). Woven from (at + n) l (others ++ others_from at (e ∷ [])) (merged from news others ++ e ∷ [])) (sym more_news) both) in
    let is = merged_is from (at + n) news2 others2 (merged from news others ++ e ∷ []) all in
    record { woven = subst (Woven from (at + n) news2 others2) (sym is) all; events = is }

pub grows_message : (from at : ℕ) (news : List (List ℕ)) (others : List Placed) (e : EventView) (n : ℕ) (news2 : List (List ℕ)) (body : List ℕ)
    → n ≡ count_of e → is_new e ≡ true → body ≡ body_of e → news2 ≡ news ++ body ∷ [] → Woven from at news others (merged from news others) → Grows from at news others e n news2 others
grows_message from at news others e n news2 body count new is more w =
    let f = new_first e [] at new in
    grows from at news others e n news2 others count (more ∙ ap (λ (b : List ℕ). news ++ b ∷ []) is ∙ ap (λ (l : List (List ℕ)). news ++ l) (sym f.0)) (sym (ap (λ (l : List Placed). others ++ l) f.1 ∙ append-nil others)) w

pub grows_other : (from at : ℕ) (news : List (List ℕ)) (others : List Placed) (e : EventView) (n : ℕ) (others2 : List Placed) (copy : EventView)
    → n ≡ count_of e → is_new e ≡ false → copy ≡ e → others2 ≡ others ++ ends_at copy (at + n) ∷ [] → Woven from at news others (merged from news others) → Grows from at news others e n news others2
grows_other from at news others e n others2 copy count other is more w =
    let f = other_first e [] at other in
    grows from at news others e n news others2 count (sym (ap (λ (l : List (List ℕ)). news ++ l) f.0 ∙ append-nil news))
    (more ∙ ap (λ (h : EventView). others ++ ends_at h (at + n) ∷ []) is ∙ ap (λ (k : ℕ). others ++ ends_at e (at + k) ∷ []) count ∙ ap (λ (l : List Placed). others ++ l) (sym f.1)) w
