-- A keeper after what a call adds to its entries.
use Rattle.std.proofs.Common.{◌≡◌, ◌≢◌, ◌⊎◌, inl, inr, ℤ, ◌<◌, ◌≤◌, List, [], ◌∷◌, length, append-nil, Bool, true, false, IsTrue, Option, Some, None, IfSome, IsSome, refl, sym, ap, ◌∙◌, subst, arith}
use Rattle.std.proofs.lemmas.Bool.{cases_lt}
use Rattle.box_events.specs.declared.requests.Post.{Post}
use Rattle.box_events.specs.declared.requests.Request.{Request}
use Rattle.box_events.specs.declared.requests.Request.TheVariants as request
use Rattle.box_server.specs.Servers.{ServerState}
use Rattle.box_server.specs.declared.entry.Entry.{Entry}
use Rattle.box_server.specs.Keeping.{KeeperState, Keeps, with_more}
use Rattle.box_server.specs.Rebuilding.{is_new, kept_if}
use Rattle.outside.specs.Events.{HostState}
use Rattle.outside.proofs.Growing.{grew_none}
use Rattle.update_sessions.specs.Kept.{kept_for}
use Rattle.serve_rooms.specs.Acts.{added, IsSure, KeeperGrew, beside}
use Rattle.serve_rooms.specs.Answering.{Adds}
use Rattle.serve_rooms.specs.Doing.{BeginsKept, DidKept}
use Rattle.serve_rooms.proofs.Acting.{told_after_all}
use Rattle.serve_rooms.proofs.Doing.{can_end}

-- ---- what a call adds

abbrev pub OneAtMost : List Entry → Type 0
OneAtMost es = (es ≡ []) ⊎ ((e : Entry) × (es ≡ e ∷ []))

module _ (s : ServerState) where
  one_if : (new : Bool) (random_id : ℤ) (posts : List Post) → OneAtMost (kept_if new s random_id posts)
  one_if true random_id posts = inr (_, refl)
  one_if false random_id posts = inl refl

  pub one_for : (r : Request) → OneAtMost (kept_for s r)
  one_for request.State = inl refl
  one_for (request.Difference pts qts date) = inl refl
  one_for (request.Channel id pts) = inl refl
  one_for (request.Post random_id posts) = one_if (is_new s random_id posts) random_id posts

pub few_of : (es : List Entry) → OneAtMost es → length es ≤ 1
few_of es (inl is) = omega (arith, ap length is)
few_of es (inr (e, is)) = omega (arith, ap length is)

some_of : (es : List Entry) → es ≢ [] → OneAtMost es → (e : Entry) × (es ≡ e ∷ [])
some_of es some (inl is) = absurd (some is)
some_of es some (inr one) = one

more_none : (es : Option (List Entry)) → with_more [] es ≡ es
more_none None = refl
more_none (Some es) = ap (λ (l : List Entry). Some l) (append-nil es)

-- entries can be added
pub can_add : (es : List Entry) → BeginsKept (Adds es) []
can_add [] = can_end true
can_add (e ∷ es) =
    let m = can_add es in
    record {
      rest = added e true ∷ m.rest;
      answer = m.answer;
      kept = (refl, m.kept);
      whole = record { first = added e true ∷ []; rest = m.rest; between = true; splits = refl; does = refl; goes = m.whole };
    }

-- ---- the keeper

module _ (old new : KeeperState) (failed : Type 0) (P : List Entry → Type 0) (k : Keeps old new failed P) where
  pub keeper_same : new.entries ≡ old.entries → KeeperGrew old [] new
  keeper_same is = record {
    entries = is;
    agrees = tt;
    later = k.later;
    cause = λ none. absurd none;
    room_kept = k.room_kept;
    stays = λ sure. (subst IsSome (sym is) sure.0, k.stays sure.0 sure.1);
  }

  pub keeper_kept : (e : Entry) → new.entries ≡ with_more (e ∷ []) old.entries → KeeperGrew old (added e true ∷ []) new
  keeper_kept e is = record {
    entries = is;
    agrees = (tt, tt);
    later = k.later;
    cause = λ h. elim h [
      | inl none ↦ absurd none
      | inr none ↦ absurd none
    ];
    room_kept = k.room_kept;
    stays = λ sure. (subst IsSome (sym is) (told_after_all (added e true ∷ []) old.entries sure.0), k.stays sure.0 sure.1);
  }

  full_at : (es : Option (List Entry)) → old.entries ≡ es → failed → ((kept : List Entry) → length kept < old.room → P kept) → IfSome es (λ kept. IsTrue old.sound → P kept → failed → ⊥) → IfSome es (λ kept. IsSure old → old.room ≤ length kept)
  full_at None is fails fits never = tt
  full_at (Some kept) is fails fits never = λ sure. elim (cases_lt (length kept) old.room) [
    | inl less ↦ absurd (never sure.1 (fits kept less) fails)
    | inr enough ↦ omega (arith, enough)
  ]

  pub keeper_failed : (e : Entry) → new.entries ≡ old.entries → failed → ((kept : List Entry) → length kept < old.room → P kept) → KeeperGrew old (added e false ∷ []) new
  keeper_failed e is fails fits = record {
    entries = is;
    agrees = (full_at old.entries refl fails fits k.never, tt);
    later = k.later;
    cause = λ h. k.cause fails;
    room_kept = k.room_kept;
    stays = λ sure. (subst IsSome (sym is) sure.0, k.stays sure.0 sure.1);
  }

  -- ---- entries were added, or that failed

  module _ (h : HostState) where
    pub none_added : new.entries ≡ old.entries → DidKept (Adds []) (beside h old) (beside h new) (Some true)
    none_added is = record { trace = []; grew = record { host = grew_none h; keeper = keeper_same is }; holds = (refl, refl) }

    one_added : (e : Entry) → new.entries ≡ with_more (e ∷ []) old.entries → DidKept (Adds (e ∷ [])) (beside h old) (beside h new) (Some true)
    one_added e is = record {
      trace = added e true ∷ [];
      grew = record { host = grew_none h; keeper = keeper_kept e is };
      holds = record { first = added e true ∷ []; rest = []; between = true; splits = refl; does = refl; goes = (refl, refl) };
    }

    pub all_added : (es : List Entry) → OneAtMost es → new.entries ≡ with_more es old.entries → DidKept (Adds es) (beside h old) (beside h new) (Some true)
    all_added es (inl none) is =
        subst (λ (l : List Entry). DidKept (Adds l) (beside h old) (beside h new) (Some true)) (sym none)
        (none_added (is ∙ ap (λ (l : List Entry). with_more l old.entries) none ∙ more_none old.entries))
    all_added es (inr (e, one)) is =
        subst (λ (l : List Entry). DidKept (Adds l) (beside h old) (beside h new) (Some true)) (sym one)
        (one_added e (is ∙ ap (λ (l : List Entry). with_more l old.entries) one))

    one_lost : (e : Entry) → new.entries ≡ old.entries → failed → ((kept : List Entry) → length kept < old.room → P kept) → DidKept (Adds (e ∷ [])) (beside h old) (beside h new) (Some false)
    one_lost e is fails fits = record {
      trace = added e false ∷ [];
      grew = record { host = grew_none h; keeper = keeper_failed e is fails fits };
      holds = record { first = added e false ∷ []; rest = []; between = false; splits = refl; does = refl; goes = (refl, refl) };
    }

    pub not_added : (es : List Entry) → es ≢ [] → OneAtMost es → new.entries ≡ old.entries → failed → ((kept : List Entry) → length kept < old.room → P kept) → DidKept (Adds es) (beside h old) (beside h new) (Some false)
    not_added es some most is fails fits =
        let one = some_of es some most in
        subst (λ (l : List Entry). DidKept (Adds l) (beside h old) (beside h new) (Some false)) (sym one.1) (one_lost one.0 is fails fits)
