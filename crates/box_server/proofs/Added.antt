-- Calls of keepers, one after another.
use Rattle.std.proofs.Common.{append-nil, ◌≡◌, ℕ, ℤ, ◌≤◌, ◌<◌, List, [], ◌∷◌, ◌++◌, Bool, true, false, IsTrue, Option, Some, None, IfSome, length, refl, sym, ap, ◌∙◌, subst, arith}
use Rattle.box_server.specs.declared.entry.Entry.{Entry}
use Rattle.std.specs.FinMap as map
use Rattle.std.proofs.lemmas.List.{length-append}
use Rattle.std.specs.Prelude.{IsErrOf}
use Rattle.std.proofs.Common.{◌^◌, is_some, Result, Ok, Err, inl, inr, true≢false}
use Rattle.box_events.specs.declared.positions.Receipt.{Receipt}
use Rattle.box_events.specs.declared.requests.Post.{Post}
use Rattle.box_server.specs.declared.draft.Draft.{Draft}
use Rattle.box_server.specs.declared.store_fault.KeepFault.{KeepFault}
use Rattle.box_server.specs.declared.store_fault.KeepFault.TheVariants as keeping
use Rattle.box_server.specs.declared.store_fault.StoreFault.{StoreFault}
use Rattle.box_server.specs.declared.store_fault.StoreFault.TheVariants as storing
use Rattle.box_server.specs.Answering.{TakesPosts, kept_after}
use Rattle.box_server.specs.inner.Taking.{Adds, IsPlan, Takes, store_answer}
use Rattle.box_server.proofs.Taken.{taken_by}
use Rattle.box_server.specs.declared.fault.PostFault.{PostFault}
use Rattle.box_server.specs.declared.posted.Posted.{Posted}
use Rattle.box_server.specs.Servers.{ServerState}
use Rattle.box_server.specs.Receiving.{after_post, answer_by, Receives}
use Rattle.box_server.specs.Refusing.{post_cause}
use Rattle.box_server.specs.Keeping.{KeeperState, Keeps, with_more}
use Rattle.box_server.specs.Rebuilding.{is_new_by, is_new, kept_if, kept_of, Rebuilds}
use Rattle.box_server.specs.Storing.{Tells, Takes as Answers}
use Rattle.box_server.proofs.Rebuilt.{one_more}

-- a call that failed at most where the other did, over states that tell the same entries
pub keeps_as : (a b : KeeperState) (F G : Type 0) (P Q : List Entry → Type 0) → ((es : List Entry) → Q es → P es) → (G → F) → Keeps a b F P → Keeps a b G Q
keeps_as a b F G P Q p f k = record {
  later = k.later;
  cause = λ g. k.cause (f g);
  room_kept = k.room_kept;
  stays = k.stays;
  never = never_as a.entries (IsTrue a.sound) F G P Q p f k.never;
}
  where
    never_as : (o : Option (List Entry)) (S F G : Type 0) (P Q : List Entry → Type 0) → ((es : List Entry) → Q es → P es) → (G → F) → IfSome o (λ es. S → P es → F → ⊥) → IfSome o (λ es. S → Q es → G → ⊥)
    never_as None S F G P Q p f n = n
    never_as (Some es) S F G P Q p f n = λ s q g. n s (p es q) (f g)

-- posts that a draft may be taken of are new
pub new_plan : (s : ServerState) (id : ℤ) (ps : List Post) (keys : ℕ) (d : Draft) → IsPlan s id ps keys d → is_new s id ps ≡ true
new_plan s id ps keys d plan = λ i. is_new_by (plan.ready.fresh i) (plan.cause i)

pub after_taken : (s t : ServerState) (id : ℤ) (ps : List Post) (p : Posted) → Receives s id ps (Ok p) t → t ≡ after_post s id ps
after_taken s t id ps p (inl r) = absurd cc
after_taken s t id ps p (inr r) = r.1

-- a store whose server took new posts, and whose keeper added them
pub tells_more : (o : Option (List Entry)) (s t : ServerState) (id : ℤ) (ps : List Post) → s.date < 2 ^ 31 → is_new s id ps ≡ true → t ≡ after_post s id ps → Tells o s → Tells (with_more (record { date = s.date; random_id = id; posts = ps } ∷ []) o) t
tells_more None s t id ps small new after k = k
tells_more (Some es) s t id ps small new after k =
    subst (λ (b : Bool). Rebuilds (es ++ kept_if b s id ps) t) new
    (subst (λ (z : ServerState). Rebuilds (es ++ kept_of s id ps) z) (sym after) (one_more es s id ps small k))

-- so many entries fit with what a new post adds: there is room for one
room_by : (es : List Entry) (s : ServerState) (id : ℤ) (ps : List Post) (room : ℕ) (b : Bool) → b ≡ true → length (es ++ kept_if b s id ps) ≤ room → length es < room
room_by es s id ps room true h le = let n = length-append es (record { date = s.date; random_id = id; posts = ps } ∷ []) in omega (arith, n, le)
room_by es s id ps room false h le = absurd cc

-- a keeper that was asked for a new post's entry failed at most where it had no room for it
pub keeps_new : (a b : KeeperState) (F G : Type 0) (s : ServerState) (id : ℤ) (ps : List Post) → is_new s id ps ≡ true → (G → F) → Keeps a b F (λ es. length es < a.room) → Keeps a b G (λ es. length (es ++ kept_of s id ps) ≤ a.room)
keeps_new a b F G s id ps new f m =
    keeps_as a b F G (λ es. length es < a.room) (λ es. length (es ++ kept_of s id ps) ≤ a.room) (λ es le. room_by es s id ps a.room (is_new s id ps) new le) f m

pub entries_new : (o n : Option (List Entry)) (s : ServerState) (id : ℤ) (ps : List Post) → is_new s id ps ≡ true → n ≡ with_more (record { date = s.date; random_id = id; posts = ps } ∷ []) o → n ≡ with_more (kept_of s id ps) o
entries_new o n s id ps new e = subst (λ (b : Bool). n ≡ with_more (kept_if b s id ps) o) (sym new) e

-- ---- a known post

known_by : (s : ServerState) (id : ℤ) (ps : List Post) (r : Receipt) (o : Option Receipt) (c : Option PostFault) → Ok (record { receipt = r; push = None }) ≡ answer_by s id ps o c → is_new_by o c ≡ false
known_by s id ps r (Some q) c e = refl
known_by s id ps r None (Some c) e = absurd cc
known_by s id ps r None None e = absurd (true≢false (sym (ap (λ (x : Result Posted PostFault). elim x as (λ _. Bool) [ Ok q ↦ is_some q.push | Err f ↦ false ]) e)))

pub known_old : (s t : ServerState) (id : ℤ) (ps : List Post) (r : Receipt) → Receives s id ps (Ok (record { receipt = r; push = None })) t → is_new s id ps ≡ false
known_old s t id ps r (inl h) = absurd cc
known_old s t id ps r (inr h) = known_by s id ps r (map.get s.receipts id) (post_cause s ps) h.0

pub with_none : (o : Option (List Entry)) → o ≡ with_more [] o
with_none None = refl
with_none (Some es) = ap (λ (l : List Entry). Some l) (sym (append-nil es))

pub entries_known : (o : Option (List Entry)) (s : ServerState) (id : ℤ) (ps : List Post) (r : Receipt) → Receives s id ps (Ok (record { receipt = r; push = None })) s → o ≡ with_more (kept_of s id ps) o
entries_known o s id ps r h = with_none o ∙ ap (λ (b : Bool). with_more (kept_if b s id ps) o) (sym (known_old s s id ps r h))

-- ---- a new post, which a server took or not, and a keeper added or not

pub plan_as : (s : ServerState) (id : ℤ) (ps qs : List Post) (keys : ℕ) (d : Draft) → qs ≡ ps → IsPlan s id qs keys d → IsPlan s id ps keys d
plan_as s id ps qs keys d same plan = subst (λ (xs : List Post). IsPlan s id xs keys d) same plan

taken_so : (s t : ServerState) (id : ℤ) (ps : List Post) (p : Posted) → Receives s id ps (Ok p) t → Answers s id ps p t
taken_so s t id ps p (inl h) = absurd cc
taken_so s t id ps p (inr h) = record { answer = h.0; server = h.1 }

-- a keeper that was never asked
unasked : (a : KeeperState) (F : Type 0) (P : List Entry → Type 0) → (F → ⊥) → Keeps a a F P
unasked a F P f = record { later = omega arith; cause = λ h. absurd (f h); room_kept = refl; stays = λ told sound. sound; never = never_by a.entries }
  where
    never_by : (o : Option (List Entry)) → IfSome o (λ es. IsTrue a.sound → P es → F → ⊥)
    never_by None = tt
    never_by (Some es) = λ sound room. f

-- neither an answer nor out of memory is a fault of the keeper
answered_none : (p : Posted) → ◌≡◌ {A = Result Posted StoreFault} (Ok p) (Err storing.Failed) → ⊥
answered_none p e = cc

abbrev IsLost : Type 0
IsLost = ◌≡◌ {A = Result Posted StoreFault} (Err storing.Memory) (Err storing.Failed)

short_none : IsLost → ⊥
short_none e = cc

module _ {K : Type 0} (state : K → KeeperState) (j k : K) (s t : ServerState) (id : ℤ) (ps : List Post) (keys : ℕ) (d : Draft) (plan : IsPlan s id ps keys d) (n : ℕ) (date : n ≡ s.date) where
  abbrev entry_at : ℕ → Entry
  entry_at z = record { date = z; random_id = id; posts = ps }

  abbrev fresh : is_new s id ps ≡ true
  fresh = new_plan s id ps keys d plan

  added_at : (state k).entries ≡ with_more (entry_at n ∷ []) (state j).entries → (state k).entries ≡ with_more (entry_at s.date ∷ []) (state j).entries
  added_at h = h ∙ ap (λ (z : ℕ). with_more (entry_at z ∷ []) (state j).entries) date

  -- the store stays right
  pub tells_taken : (r : Result Posted KeepFault) → s.date < 2 ^ 31 → Takes s id d r t → Adds state j k (entry_at n) r → Tells (state j).entries s → Tells (state k).entries t
  tells_taken (Ok p) small takes adds tells =
      subst (λ (o : Option (List Entry)). Tells o t) (sym (added_at adds.0)) (tells_more (state j).entries s t id ps small fresh (after_taken s t id ps p (taken_by s t id ps keys d p plan takes)) tells)
  tells_taken (Err keeping.Failed) small takes adds tells = subst (λ (o : Option (List Entry)). Tells o t) (sym adds.0) (subst (λ (u : ServerState). Tells (state j).entries u) (sym takes) tells)
  tells_taken (Err keeping.Memory) small takes adds tells = subst (λ (i : K). Tells (state i).entries t) (sym adds) (subst (λ (u : ServerState). Tells (state j).entries u) (sym takes) tells)

  -- and answers as its server
  pub posts_taken : (r : Result Posted KeepFault) → Takes s id d r t → Adds state j k (entry_at n) r → TakesPosts (record { keeper = j; server = s }) id ps (store_answer r) (record { keeper = k; server = t })
  posts_taken (Ok p) takes adds = taken_so s t id ps p (taken_by s t id ps keys d p plan takes)
  posts_taken (Err keeping.Failed) takes adds = (fresh, takes)
  posts_taken (Err keeping.Memory) takes adds = λ i. record { keeper = adds i; server = takes i }

  pub entries_taken : (r : Result Posted KeepFault) → Adds state j k (entry_at n) r → (state k).entries ≡ with_more (kept_after (record { keeper = j; server = s }) id ps (store_answer r)) (state j).entries
  entries_taken (Ok p) adds = entries_new (state j).entries (state k).entries s id ps fresh (added_at adds.0)
  entries_taken (Err keeping.Failed) adds = adds.0 ∙ with_none (state j).entries
  entries_taken (Err keeping.Memory) adds = ap (λ (i : K). (state i).entries) adds ∙ with_none (state j).entries

  pub keeps_taken : (r : Result Posted KeepFault) → Adds state j k (entry_at n) r → Keeps (state j) (state k) (IsErrOf (store_answer r) storing.Failed) (λ es. length (es ++ kept_of s id ps) ≤ (state j).room)
  keeps_taken (Ok p) adds = keeps_new (state j) (state k) ⊥ _ s id ps fresh (answered_none p) adds.1
  keeps_taken (Err keeping.Failed) adds = keeps_new (state j) (state k) (Unit {0}) _ s id ps fresh (λ f. tt) adds.1
  keeps_taken (Err keeping.Memory) adds = subst (λ (i : K). Keeps (state j) (state i) IsLost (λ es. length (es ++ kept_of s id ps) ≤ (state j).room)) (sym adds) (unasked (state j) _ _ short_none)
