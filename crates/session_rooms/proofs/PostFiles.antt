-- What `post` writes to a link and tells of it, and what its input is as it is read.
use Rattle.std.proofs.Common.{◌≡◌, ℕ, ◌+◌, ◌-◌, ◌<◌, List, [], ◌∷◌, ◌++◌, map, length, length-append, append-nil, append_assoc, take, true, Some, sym, ap, ◌∙◌, subst, inl, inr, arith}
use Rattle.std.specs.Prelude.{◌≢◌}
use Rattle.std.proofs.lemmas.Bool.{cases_lt}
use Rattle.std.proofs.lemmas.List.{get_or_at, set_at, take_all, length-take}
use Rattle.tl_base.specs.Calls.{link_taken}
use Rattle.tl_base.specs.Contents.{Files}
use Rattle.tl_base.specs.Outside.{View, last_or, with_last, written_of}
use Rattle.tl_base.specs.declared.host.Out.TheVariants as outs
use Rattle.tl_schema.specs.Schemas.{Declared}
use Rattle.tl_schema.specs.Types.{call}
use Rattle.wire_profile.specs.Indexes.{ProfileView}
use Rattle.outside.specs.Answer.{Answer}
use Rattle.outside.specs.declared.status.Status.{Status}
use Rattle.outside.specs.declared.status.Status.TheVariants.{LinkFault, Memory, ReadFault, WriteFault}
use Rattle.outside.specs.Events.{Event, Outside, put}
use Rattle.outside.specs.Pieces.{Writes, joined}
use Rattle.outside.specs.Fits.{Fits}
use Rattle.schema_files.specs.Causes.{JsonCause, TooLong, NoJson, Unformed, Misfit}
use Rattle.schema_files.specs.JsonInput.{JsonRefused}
use Rattle.schema_files.specs.declared.json_input.TheConstants.{JSON_BYTES}
use Rattle.session_commands.specs.Post.{Outcome, peer, shows}
use Rattle.session_commands.specs.Post as answer

-- the status of a run that neither the outside nor memory stopped
abbrev pub IsTold : Status → Type 0
IsTold r = ((r ≢ ReadFault) × (r ≢ WriteFault) × (r ≢ Memory)) × (r ≢ LinkFault)

-- ---- what is looked at

abbrev pub output_of : Outside → List ℕ
output_of s = written_of outs.Output s.view

-- all but slots, Output and Errors
abbrev pub aside : View → View
aside v = record v { left = record { schema = []; input = []; state = []; link = [] }; written = record v.written { output = []; errors = [] } }

-- ---- what was written to the link

pub last_push : (none x : List ℕ) (xs : List (List ℕ)) → last_or none (xs ++ x ∷ []) ≡ x
last_push none x xs = get_or_at xs x [] none (length (xs ++ x ∷ []) - 1) (omega (arith, length-append xs (x ∷ [])))

with_push : (bytes x : List ℕ) (xs : List (List ℕ)) → with_last bytes (xs ++ x ∷ []) ≡ xs ++ bytes ∷ []
with_push bytes x xs = set_at xs x [] bytes (length (xs ++ x ∷ []) - 1) (omega (arith, length-append xs (x ∷ [])))

sent_pieces : (before : List (List ℕ)) (pieces : List (List ℕ)) (x : List ℕ) (s n : Outside) → s.view.written.links ≡ before ++ x ∷ [] → Fits (map (put outs.Link) pieces ++ []) s n
    → n.view.written.links ≡ before ++ (x ++ joined pieces) ∷ []
sent_pieces before [] x s n is f = ap (λ (o : Outside). o.view.written.links) f ∙ is ∙ ap (λ (z : List ℕ). before ++ z ∷ []) (sym (append-nil x))
sent_pieces before (p ∷ pieces) x s n is f =
    let one : f.0.view.written.links ≡ before ++ (x ++ p) ∷ [] =
    ap (λ (v : View). v.written.links) f.1.0 ∙ ap (λ (ls : List (List ℕ)). with_last (last_or s.view.written.unlinked ls ++ p) ls) is
    ∙ ap (λ (z : List ℕ). with_last (z ++ p) (before ++ x ∷ [])) (last_push s.view.written.unlinked x before) ∙ with_push (x ++ p) x before in
    sent_pieces before pieces (x ++ p) f.0 n one f.2 ∙ ap (λ (z : List ℕ). before ++ z ∷ []) (append_assoc x p (joined pieces))

pub sent_bytes : (before : List (List ℕ)) (bytes : List ℕ) (t : List Event) (s n : Outside) → s.view.written.links ≡ before ++ [] ∷ [] → Writes outs.Link bytes t true → Fits t s n → n.view.written.links ≡ before ++ bytes ∷ []
sent_bytes before bytes t s n is w f = sent_pieces before w.pieces [] s n is (subst (λ (l : List Event). Fits l s n) w.events f) ∙ ap (λ (z : List ℕ). before ++ z ∷ []) w.join

-- ---- what comes back

abbrev pub shown_of : Outcome → List ℕ
shown_of (shows line) = line
shown_of (peer line) = []

-- ---- a link

-- the view after a link was made to an address
abbrev pub linked : List ℕ → View → View
linked address v = record (link_taken v) { address = Some address }

-- ---- the call and its text

module _ (p : ProfileView) (address : List ℕ) where
  -- what is answered to the bytes up to one past the limit is answered to all of them
  long_refused : (S : Declared) (read file : List ℕ) (cause : JsonCause) → JSON_BYTES < length read → JSON_BYTES < length file → JsonRefused S call read cause → JsonRefused S call file cause
  long_refused S read file TooLong here there h = there
  long_refused S read file NoJson here there h = absurd (omega (arith, here, h.0))
  long_refused S read file (Unformed path cause) here there h = absurd (omega (arith, here, h.1.0))
  long_refused S read file (Misfit path cause) here there h = absurd (omega (arith, here, h.2.0))

  long_json : (read file given : List ℕ) (a : Answer) → JSON_BYTES < length read → JSON_BYTES < length file → answer.OfJson p address read given a → answer.OfJson p address file given a
  long_json read file given a here there (answer.no_json cause refuses is) = answer.no_json cause (long_refused p.schema read file cause here there refuses) is
  long_json read file given a here there (answer.json_of x b json spells are of) = absurd (omega (arith, here, json.1.0))

  pub json_stays : (file given : List ℕ) (a : Answer) → answer.OfJson p address (take (JSON_BYTES + 1) file) given a → answer.OfJson p address file given a
  json_stays file given a h =
      elim (cases_lt JSON_BYTES (length file)) [
        | inl long ↦ long_json (take (JSON_BYTES + 1) file) file given a (omega (arith, long, length-take (JSON_BYTES + 1) file)) long h
        | inr few ↦ subst (λ (l : List ℕ). answer.OfJson p address l given a) (take_all (JSON_BYTES + 1) file (omega (arith, few))) h
      ]

-- ---- files

module _ (schema address input : List ℕ) where
  abbrev pub OfInput : Files → List ℕ → ProfileView → Answer → Type 0
  OfInput = answer.OfInput address input
