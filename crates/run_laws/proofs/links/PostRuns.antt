-- How a run of `post` ends, and what it leaves.
use Rattle.std.proofs.Common.{ℕ, List, Option, Some, None, codes, ap, ◌∙◌, subst, inl, inr}
use Rattle.tl_base.specs.Outside.{View, ShowsBytes}
use Rattle.tl_base.specs.declared.host.Slot.TheVariants as slots
use Rattle.tl_schema.specs.Schemas.{Declared}
use Rattle.wire_profile.specs.Indexes.{ProfileView}
use Rattle.outside.specs.Answer.{Answer}
use Rattle.outside.specs.Kept.{LeavesInput}
use Rattle.outside.specs.Sound.{HasRoomFor}
use Rattle.outside.specs.declared.status.Status.{Status}
use Rattle.outside.specs.declared.status.Status.TheVariants.{Memory}
use Rattle.outside.specs.Begun.{to_link}
use Rattle.outside.specs.Events.{Event, Outside}
use Rattle.outside.specs.Pieces.{ReadsFile}
use Rattle.outside.specs.Runs as runs
use Rattle.outside.proofs.Causing.{keeps_tell, told_status}
use Rattle.outside.specs.Fits.{Fits}
use Rattle.outside.specs.Reliable.{IsReliable}
use Rattle.outside.proofs.Fitting.{files_are_read, files_can_be_read, fits_both}
use Rattle.schema_files.specs.declared.json_input.TheConstants.{JSON_BYTES}
use Rattle.schema_files.specs.declared.schema_text.TheConstants.{SCHEMA_BYTES}
use Rattle.schema_files.specs.Loaded.{IsSchemaText}
use Rattle.fault_lines.specs.Profiled.{HasProfile}
use Rattle.fault_lines.proofs.Profiled.{profile_tells}
use Rattle.codec_rooms.specs.Typed as typed
use Rattle.update_commands.specs.Profile.{OfProfile, no_profile, profiled}
use Rattle.session_commands.specs.Linked.{LeavesLinks, next_link}
use Rattle.session_commands.specs.Post.{OfInput, PostAnswer, PostKeeps, ReachesLink, post_job}
use Rattle.session_commands.proofs.OneTotal.{given_bytes}
use Rattle.session_rooms.specs.Post.{OfInputFile, after_reading, posts}
use Rattle.session_rooms.proofs.LeftViews.{SparesRest}
use Rattle.session_rooms.proofs.PostLaws.{post_has_cause}
use Rattle.session_rooms.proofs.PostFiles.{IsTold}
use Rattle.session_rooms.proofs.PostLeaving.{post_leaves}
use Rattle.session_rooms.proofs.PostUnfailing.{post_unfailing}
use Rattle.run_laws.specs.Ended.{Anything, ErrorsFailed, RunEnds, RunKeeps, RunIsSound, RunsJob}
use Rattle.run_laws.proofs.links.Ending.{IsSafe, ends_so, memory_ends, memory_safe, refusal_safe, safe_as}
use Rattle.run_laws.proofs.links.PostComing.{post_comes}
use Rattle.run_laws.proofs.links.Reaching.{Reach, at_schema, at_file, at_link, run_reach, schema_stays}

module _ (schema address input : List ℕ) where
  -- ---- how it ends

  pub ends : RunEnds Anything (post_job schema address input) to_link (posts schema address input)
  ends t r s n shown (runs.done h) f =
      ends_so (λ v a. PostAnswer v.files (next_link v) schema address input a) (PostKeeps schema input) t r s n (post_has_cause schema address input t r (runs.done h)) (post_comes (ErrorsFailed t) schema address input t r s n h f (λ x. x))
  ends t r s n shown (runs.out_of_memory h) f = memory_ends (post_job schema address input) (posts schema address input) t r s n h f

  -- ---- what it leaves

  input_kept : (v w : View) → Reach v.files schema input v w → LeavesInput (HasProfile v.files schema) v w
  input_kept v w (at_schema rest kept) = inl kept
  input_kept v w (at_file profile rest) = inr profile
  input_kept v w (at_link there) = inr there.profile

  pub links_kept : (v w : View) → Reach v.files schema input v w → LeavesLinks (ReachesLink v.files schema input) v w
  links_kept v w (at_schema rest kept) = inl (ap (λ (x : View). x.links) rest, ap (λ (x : View). x.written.links) rest, ap (λ (x : View). x.address) rest)
  links_kept v w (at_file profile rest) = inl (ap (λ (x : View). x.links) rest, ap (λ (x : View). x.written.links) rest, ap (λ (x : View). x.address) rest)
  links_kept v w (at_link there) = inr there

  pub keeps : RunKeeps (post_job schema address input) to_link (posts schema address input)
  keeps t r s n run f =
      let left = post_leaves schema address input t r s n run f in
      let reach = run_reach schema input slots.Input JSON_BYTES (λ p. after_reading p address) (λ p. keeps_tell SparesRest (λ _. tt) tt _ _) t r s n run f in
      record { rest = left.0; state = (left.1, left.2); input = input_kept s.view n.view reach; links = links_kept s.view n.view reach }

  -- ---- where nothing fails

  told_safe : (r : Status) → IsTold r → IsSafe r
  told_safe r told (inl e) = told.0.0 e
  told_safe r told (inr (inl e)) = told.0.1 e
  told_safe r told (inr (inr e)) = told.1 e

  module _ (t : List Event) (r : Status) (s n : Outside) (shown : ShowsBytes s.view) (run : posts schema address input t r) (fits : Fits t s n) (reliable : IsReliable s)
      (a : Answer) (of : PostAnswer s.view.files (next_link s.view) schema address input a) (room : HasRoomFor a s.view) where
    -- the schema is a profile, and so the input is there
    input_safe : (p : ProfileView) → OfInput address input s.view.files (next_link s.view) p a → IsSafe r
    input_safe p (bytes, has, json) =
        told_safe r (post_unfailing schema address input t r s n a run fits reliable (of.0, of.1) (bytes, has) (given_bytes s.view.links shown.links 0) of room)

    profile_safe : (text : List ℕ) (S : Declared) (u : List Event) → ReadsFile slots.Schema schema SCHEMA_BYTES u (Some text) → IsSchemaText text S → (m : Outside) → Fits u s m → (l : List Event) → OfProfile (OfInputFile address input) S l r → IsSafe r
    profile_safe text S u read is m f l (no_profile fault lacks h) = refusal_safe _ l r h
    profile_safe text S u read is m f l (profiled p answers h) =
        let got = files_are_read slots.Schema schema SCHEMA_BYTES u text s m read f in
        input_safe p
        (profile_tells (OfInput address input s.view.files (next_link s.view)) s.view.files schema got.0 S p a got.1 (schema_stays got.0 S (subst (λ (z : List ℕ). IsSchemaText z S) got.2 is)) answers of)

    read_safe : (o : Option (List ℕ)) (u l : List Event) (m : Outside) → ReadsFile slots.Schema schema SCHEMA_BYTES u o → typed.after_schema (codes "schema") (OfProfile (OfInputFile address input)) o l r → Fits u s m → IsSafe r
    read_safe (Some text) u l m read (typed.no_schema cause refuses h) f = refusal_safe _ l r h
    read_safe (Some text) u l m read (typed.schema_of S is h) f = profile_safe text S u read is m f l h
    read_safe None u l m read h f = absurd (files_can_be_read slots.Schema schema SCHEMA_BYTES u s m read f reliable (of.0, of.1))

  pub sound : RunIsSound ShowsBytes (post_job schema address input) to_link (posts schema address input)
  sound t r s n shown (runs.done h) f reliable (a, of, room) fault =
      let parts = fits_both h.first h.rest s n (subst (λ (l : List Event). Fits l s n) h.splits f) in
      read_safe t r s n shown h f reliable a of room h.between h.first h.rest parts.0 h.does h.goes parts.1 fault
  sound t r s n shown (runs.out_of_memory h) f reliable fit fault = safe_as r Memory (told_status _ h.between h.rest r h.goes ∙ h.does.1) memory_safe fault

pub post_runs : (schema address input : List ℕ) → RunsJob Anything ShowsBytes (post_job schema address input) to_link (posts schema address input)
post_runs schema address input = record { ends = ends schema address input; keeps = keeps schema address input; sound = sound schema address input }
