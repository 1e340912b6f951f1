-- Each value is handed out in its call's own result, and each call's once.
use Rattle.std.proofs.Common.{◌≡◌, ℕ, zero, suc, List, [], ◌∷◌, Some, None, true≢false, refl, ap, sym, ◌∙◌, subst}
use Rattle.tl_schema.specs.Schemas.{Declared}
use Rattle.tl_types.specs.Values.{ValueView}
use Rattle.tl_calls.specs.Events.{came, Logged, Log, Gives, Given}
use Rattle.tl_calls.specs.Laws.{GivesAt, IsTyped, EachIsGivenOnce}
use Rattle.tl_calls.proofs.Sent.{call_later, given_at}

some_is : {X : Type 0} (x y : X) → Some x ≡ Some y → x ≡ y
some_is x y same = cc

module _ (schema : Declared) where
  -- what the latest event gives
  gives_now : (e : Logged) (past : Log) (n : ℕ) (b : List ℕ) (v : ValueView) → Given schema (e ∷ past) → Some e ≡ Some (came n b, Some v) → Gives schema past (came n b) (Some v)
  gives_now e past n b v given at = subst (λ (f : Logged). Gives schema past f.0 f.1) (some_is e (came n b, Some v) at) given.0

  typed : (log : Log) → Given schema log → (k n : ℕ) (v : ValueView) → GivesAt log k n v → IsTyped schema log n v
  typed [] given k n v g = absurd (none (came n g.bytes, Some v) g.there)
    where
      none : (x : Logged) → None ≡ Some x → ⊥
      none x same = cc
  typed (e ∷ past) given zero n v g =
      let now = gives_now e past n g.bytes v given g.there in record {
        call = now.0;
        bytes = g.bytes;
        sent = call_later e past n now.0 now.1.sent;
        spelled = now.2;
      }
  typed (e ∷ past) given (suc k) n v g =
      let t = typed past given.1 k n v (record { bytes = g.bytes; there = g.there }) in record {
        call = t.call;
        bytes = t.bytes;
        sent = call_later e past n t.call t.sent;
        spelled = t.spelled;
      }

  -- the latest event gives no value of a call that was given before
  not_again : (e : Logged) (past : Log) (k n : ℕ) (v w : ValueView) → Given schema (e ∷ past) → GivesAt (e ∷ past) zero n v → GivesAt past k n w → ⊥
  not_again e past k n v w given g h =
      true≢false (sym (given_at past k n h.bytes w h.there) ∙ (gives_now e past n g.bytes v given g.there).1.left)

  once : (log : Log) → Given schema log → (j k n : ℕ) (v w : ValueView) → GivesAt log j n v → GivesAt log k n w → j ≡ k
  once [] given j k n v w g h = absurd (none (came n g.bytes, Some v) g.there)
    where
      none : (x : Logged) → None ≡ Some x → ⊥
      none x same = cc
  once (e ∷ past) given zero zero n v w g h = refl
  once (e ∷ past) given zero (suc k) n v w g h = absurd (not_again e past k n v w given g (record { bytes = h.bytes; there = h.there }))
  once (e ∷ past) given (suc j) zero n v w g h = absurd (not_again e past j n w v given h (record { bytes = g.bytes; there = g.there }))
  once (e ∷ past) given (suc j) (suc k) n v w g h =
      ap suc (once past given.1 j k n v w (record { bytes = g.bytes; there = g.there }) (record { bytes = h.bytes; there = h.there }))

pub each_is_given_once : EachIsGivenOnce
each_is_given_once schema log given = record { typed = typed schema log given; once = once schema log given }
