-- A run of `client` that ends with status 0 has recovered its client.
use Rattle.std.proofs.Common.{◌≡◌, inl, inr, ℕ, ℤ, List, [], ◌∷◌, ◌++◌, Some, Result, Ok, Err, sym, ap, ◌∙◌, subst, codes}
use Rattle.tl_numbers.specs.Bytes.{AreBytes}
use Rattle.tl_base.specs.Outside.{View, HasFile}
use Rattle.tl_schema.specs.Schemas.{Declared}
use Rattle.box_events.specs.declared.replies.Frame.{Frame}
use Rattle.channel_box.specs.States.{ids_of}
use Rattle.box_client.specs.Saving.{saved_of}
use Rattle.box_client.specs.States.{ClientState}
use Rattle.box_world.specs.Streams.{begun}
use Rattle.wire_profile.specs.Indexes.{ProfileView}
use Rattle.wire_profile.specs.Profiles.{IsProfile}
use Rattle.wire_values.specs.SavedClients.{saved_tree}
use Rattle.box_wire.specs.Framing.{Framed}
use Rattle.box_wire.specs.Kinds.{saved_clients}
use Rattle.outside.specs.Answer.{Answer}
use Rattle.outside.specs.Kept.{Leaves, bytes_after, name_after}
use Rattle.outside.specs.declared.status.Status.TheVariants.{Done, Refused, ReadFault, WriteFault, Memory, LinkFault, PeerFault}
use Rattle.outside.proofs.SameFiles.{file_bytes, same_file}
use Rattle.schema_files.specs.Answering.{OfSchemaText, no_schema, schema_of}
use Rattle.schema_files.specs.Loaded.{IsSchemaText}
use Rattle.fault_lines.specs.Profiled.{IsProfileText, OfProfile, no_profile, profiled}
use Rattle.fault_lines.proofs.Profiled.{are_profiles}
use Rattle.update_sessions.specs.declared.fault.SessionFault.{SessionFault}
use Rattle.update_sessions.specs.declared.fault.SessionFault.TheVariants as session
use Rattle.update_sessions.specs.Heard.{Hears, asked, broke_off}
use Rattle.update_sessions.specs.Honest.{told_all}
use Rattle.session_commands.specs.Client.{ClientAnswer, HasClient, OfSession, OfState, OfStateFile, client_line, failed, no_client, recovered, too_many, watch_all, watches}
use Rattle.session_commands.specs.Linked.{next_link}
use Rattle.commands.specs.Requests.{AsksFor, RequestText, client}
use Rattle.outside.specs.Events.{Event}
use Rattle.run_laws.specs.Ended.{LinkFailed}
use Rattle.run_laws.specs.Requests.{job_of}
use Rattle.run_laws.specs.Runs.{Ends, MayAnswer, answered, link_failed, out_of_memory, out_of_memory_later, out_of_memory_told, read_failed, read_failed_later, write_failed}
use Rattle.run_laws.proofs.Endings.{words_end}
use Rattle.run_laws.proofs.OneAnswer.{answer_to}
use Rattle.commands.proofs.Rows.{one_request}
use Rattle.headline.specs.Client.{ClientEnds, ClientHeadline}
use Rattle.headline.specs.Recovered.{Recovers}
use Rattle.headline.proofs.Recoveries as recoveries
use Rattle.headline.proofs.Recoveries.{heard_so}
use Rattle.headline.proofs.Watching.{session_ids}

-- Done is no other status
pub not_refused : Done ≡ Refused → ⊥
not_refused e = cc

not_peer : Done ≡ PeerFault → ⊥
not_peer e = cc

pub not_link : Done ≡ LinkFault → ⊥
not_link e = cc

pub not_read : Done ≡ ReadFault → ⊥
not_read e = cc

pub not_write : Done ≡ WriteFault → ⊥
not_write e = cc

pub not_memory : Done ≡ Memory → ⊥
not_memory e = cc

pub profile_is : (schema : List ℕ) (p : ProfileView) → IsProfileText schema p → IsProfile p
profile_is schema p t = (are_profiles t.schema p t.read.good t.is).0

pub unbroken : (n : ℕ) → ◌≡◌ {A = Result ℕ SessionFault} (Ok n) (Err session.LinkFault) → ⊥
unbroken n e = cc

-- a run that ended well: its session, what that sent, and what was saved and told after it
pub record Ran (schema state_name : List ℕ) (channels : List ℤ) (state : List ℕ) (v w : View) : Type 0 where
  pub p : ProfileView
  pub text : IsProfileText schema p
  pub opened : ClientState
  pub c : ClientState
  pub d : ClientState
  pub has : HasClient p state opened
  pub watches : watch_all channels opened ≡ Some c
  pub many : ℕ
  pub sent : List ℕ
  pub frames : List Frame
  pub last : List Frame
  pub hears : Hears p c (next_link v) sent d (Ok many) frames last
  pub spelled : Framed p saved_clients (saved_tree (saved_of d)) w.written.state
  pub name : w.state_name ≡ Some state_name
  pub told : w.written.output ≡ v.written.output ++ client_line d
  pub links : w.written.links ≡ v.written.links ++ sent ∷ []

module _ (schema state_name : List ℕ) (channels : List ℤ) (state : List ℕ) (v w : View) where
  -- what was saved and told, after a session that ended well
  ends_by : AreBytes state → (r : Ran schema state_name channels state v w) → Recovers r.p channels state (next_link v) w.written.state r.frames r.c r.d → ClientEnds schema state_name channels state v w
  ends_by are r recovers = record {
    p = r.p;
    profile = r.text;
    frames = r.frames;
    c = r.c;
    d = r.d;
    recovers = recovers;
    ids = ap (λ (x : ClientState). ids_of x.channels) recovers.heard ∙ session_ids r.c (told_all r.frames);
    name = r.name;
    told = r.told;
    honest = recoveries.recovered r.p (profile_is schema r.p r.text) channels state (next_link v) w.written.state r.frames r.c r.d are recovers;
  }

  recovers_by : (r : Ran schema state_name channels state v w) → Hears r.p r.c (next_link v) r.sent r.d (Ok r.many) r.frames r.last → Recovers r.p channels state (next_link v) w.written.state r.frames r.c r.d
  recovers_by r (broke_off why wrote is none nothing) = absurd (unbroken r.many why)
  recovers_by r (asked first more packed parts (left, e, calm, many, few, none)) =
      record { opened = r.opened; has = r.has; watches = r.watches; left = left; came = e.came; heard = e.ends ∙ heard_so r.p (begun r.c) r.frames; done = calm; saves = r.spelled }

  of_session : (p : ProfileView) → IsProfileText schema p → (address : List ℕ) (opened c : ClientState) (a : Answer) → HasClient p state opened → watch_all channels opened ≡ Some c → OfSession p address state_name c (next_link v) a → Done ≡ a.status
      → w.written.output ≡ v.written.output ++ a.output → Leaves a v w → Ran schema state_name channels state v w
  of_session p text address opened c a has watch (failed fault sent line d hears short tells is) ends output leaves = absurd (not_peer (ends ∙ ap (λ (x : Answer). x.status) is))
  of_session p text address opened c a has watch (recovered n sent saved d hears spelled is) ends output leaves = record {
    p = p;
    text = text;
    opened = opened;
    c = c;
    d = d;
    has = has;
    watches = watch;
    many = n;
    sent = sent;
    frames = hears.frames;
    last = hears.last;
    hears = hears.hears;
    spelled = subst (Framed p saved_clients (saved_tree (saved_of d))) (sym (leaves.state ∙ ap (λ (x : Answer). bytes_after x.state v.written.state) is)) spelled;
    name = leaves.state_name ∙ ap (λ (x : Answer). name_after x.state v.state_name) is;
    told = output ∙ ap (λ (x : Answer). v.written.output ++ x.output) is;
    links = leaves.links ∙ ap (λ (x : Answer). v.written.links ++ x.links) is;
  }

  of_state : (p : ProfileView) → IsProfileText schema p → (address : List ℕ) (a : Answer) → OfState p address state_name channels state (next_link v) a → Done ≡ a.status → w.written.output ≡ v.written.output ++ a.output → Leaves a v w
      → Ran schema state_name channels state v w
  of_state p text address a (no_client line tells is) ends output leaves = absurd (not_refused (ends ∙ ap (λ (x : Answer). x.status) is))
  of_state p text address a (too_many c has many is) ends output leaves = absurd (not_refused (ends ∙ ap (λ (x : Answer). x.status) is))
  of_state p text address a (watches c d has watch session) ends output leaves = of_session p text address c d a has watch session ends output leaves

  of_file : (p : ProfileView) → IsProfileText schema p → (address : List ℕ) (a : Answer) → HasFile v.files state_name state → OfStateFile address state_name channels v.files (next_link v) p a → Done ≡ a.status → w.written.output ≡ v.written.output ++ a.output
      → Leaves a v w → Ran schema state_name channels state v w
  of_file p text address a holds (bytes, there, told) ends output leaves =
      let same : bytes ≡ state = same_file v.files state_name bytes state there holds in
      of_state p text address a (subst (λ (b : List ℕ). OfState p address state_name channels b (next_link v) a) same told) ends output leaves

  of_profile : (address : List ℕ) (a : Answer) (S : Declared) → IsSchemaText schema S → HasFile v.files state_name state → OfProfile (OfStateFile address state_name channels v.files (next_link v)) S a → Done ≡ a.status
      → w.written.output ≡ v.written.output ++ a.output → Leaves a v w → Ran schema state_name channels state v w
  of_profile address a S read holds (no_profile fault answers is) ends output leaves = absurd (not_refused (ends ∙ ap (λ (x : Answer). x.status) is))
  of_profile address a S read holds (profiled p answers told) ends output leaves = of_file p (record { schema = S; read = read; is = answers }) address a holds told ends output leaves

  of_text : (address : List ℕ) (a : Answer) → HasFile v.files state_name state → OfSchemaText (codes "schema") (OfProfile (OfStateFile address state_name channels v.files (next_link v))) schema a → Done ≡ a.status
      → w.written.output ≡ v.written.output ++ a.output → Leaves a v w → Ran schema state_name channels state v w
  of_text address a holds (no_schema cause refuses is) ends output leaves = absurd (not_refused (ends ∙ ap (λ (x : Answer). x.status) is))
  of_text address a holds (schema_of S read told) ends output leaves = of_profile address a S read holds told ends output leaves

  of_answer : (address schema_name : List ℕ) (a : Answer) → HasFile v.files schema_name schema → HasFile v.files state_name state → ClientAnswer v.files (next_link v) schema_name address state_name channels a → Done ≡ a.status
      → w.written.output ≡ v.written.output ++ a.output → Leaves a v w → Ran schema state_name channels state v w
  of_answer address schema_name a has holds (text, there, told) ends output leaves =
      let same : text ≡ schema = same_file v.files schema_name text schema there has in
      of_text address a holds (subst (λ (t : List ℕ). OfSchemaText (codes "schema") (OfProfile (OfStateFile address state_name channels v.files (next_link v))) t a) same told) ends output leaves

broken_link : (words : List (List ℕ)) (schema_name address state_name : List ℕ) (channels : List ℤ) (v : View) (a : Answer) (r : RequestText) → AsksFor words (client schema_name address state_name channels) → AsksFor words r → (job_of r).broken v a → Done ≡ a.status → ⊥
broken_link words schema_name address state_name channels v a r asks also broken ends =
    let is = subst (λ (x : RequestText). (job_of x).broken v a) (one_request words r (client schema_name address state_name channels) also asks) broken in
    not_link (ends ∙ ap (λ (x : Answer). x.status) is)

answer_is : (words : List (List ℕ)) (schema_name address state_name : List ℕ) (channels : List ℤ) (L : Type 0) (v : View) (a : Answer) → AsksFor words (client schema_name address state_name channels) → MayAnswer words L v a → Done ≡ a.status
    → ClientAnswer v.files (next_link v) schema_name address state_name channels a
answer_is words schema_name address state_name channels L v a asks (inl h) ends = answer_to words v (client schema_name address state_name channels) a asks h
answer_is words schema_name address state_name channels L v a asks (inr (rose, r, also, broken)) ends = absurd (broken_link words schema_name address state_name channels v a r asks also broken ends)

pub client_ends : (words : List (List ℕ)) (schema_name address state_name : List ℕ) (channels : List ℤ) (t : List Event) (v w : View) (schema state : List ℕ) → AsksFor words (client schema_name address state_name channels) → HasFile v.files schema_name schema → HasFile v.files state_name state
    → Ends words t Done v w → Ran schema state_name channels state v w
client_ends words schema_name address state_name channels t v w schema state asks has holds (answered a may ends output leaves tells) =
    of_answer schema state_name channels state v w address schema_name a has holds (answer_is words schema_name address state_name channels (LinkFailed t) v a asks may ends) ends output leaves
client_ends words schema_name address state_name channels t v w schema state asks has holds (read_failed one rose is output tells) = absurd (not_read is)
client_ends words schema_name address state_name channels t v w schema state asks has holds (read_failed_later rose is s on) = absurd (not_read is)
client_ends words schema_name address state_name channels t v w schema state asks has holds (write_failed rose is s) = absurd (not_write is)
client_ends words schema_name address state_name channels t v w schema state asks has holds (link_failed rose is s) = absurd (not_link is)
client_ends words schema_name address state_name channels t v w schema state asks has holds (out_of_memory is output tells) = absurd (not_memory is)
client_ends words schema_name address state_name channels t v w schema state asks has holds (out_of_memory_later is s pieces) = absurd (not_memory is)
client_ends words schema_name address state_name channels t v w schema state asks has holds (out_of_memory_told is r also tells u before told) = absurd (not_memory is)

pub client_headline : ClientHeadline
client_headline words schema_name address state_name channels t before after schema state asks has holds over =
    let v : View = before.view in
    let w : View = after.view in
    let r = client_ends words schema_name address state_name channels t v w schema state asks has holds (words_end words t Done before after over) in
    ends_by schema state_name channels state v w (file_bytes v.files state_name state over.shown.bytes.files holds) r (recovers_by schema state_name channels state v w r r.hears)
