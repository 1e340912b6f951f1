-- A run of `serve` that ends with status 0 has had each of its sessions.
use Rattle.std.proofs.Common.{◌≡◌, inl, inr, ℕ, zero, suc, ◌+◌, ◌<◌, List, [], ◌∷◌, ◌++◌, length, length-append, get_or, refl, sym, ap, ◌∙◌, subst, codes, arith}
use Rattle.std.proofs.Math.Nat.{eq-or-lt_of_le}
use Rattle.tl_base.specs.Outside.{View, HasFile}
use Rattle.tl_schema.specs.Schemas.{Declared}
use Rattle.box_server.specs.Servers.{ServerState, new_server}
use Rattle.box_server.specs.declared.entry.Entry.{Entry}
use Rattle.tl_numbers.specs.Bytes.{ListsOfBytes}
use Rattle.box_world.specs.Streams.{Doing}
use Rattle.wire_profile.specs.Indexes.{ProfileView}
use Rattle.wire_profile.specs.Profiles.{IsProfile}
use Rattle.outside.specs.Answer.{Answer}
use Rattle.outside.specs.Kept.{Leaves}
use Rattle.outside.specs.declared.status.Status.TheVariants.{Done}
use Rattle.outside.proofs.SameFiles.{same_file}
use Rattle.schema_files.specs.Answering.{OfSchemaText, no_schema, schema_of}
use Rattle.schema_files.specs.Loaded.{IsSchemaText}
use Rattle.fault_lines.specs.Profiled.{IsProfileText, OfProfile, no_profile, profiled}
use Rattle.session_commands.specs.Serve.{IsAny, IsWhole, OfSessions, ServeAnswer, Session, SessionEnd, Sessions, Total}
use Rattle.session_commands.proofs.OneTotal.{any_of, given_bytes}
use Rattle.commands.specs.Requests.{AsksFor, RequestText, serve}
use Rattle.outside.specs.Events.{Event}
use Rattle.run_laws.specs.Ended.{LinkFailed}
use Rattle.run_laws.specs.Requests.{job_of}
use Rattle.run_laws.specs.Runs.{Ends, MayAnswer, answered, link_failed, out_of_memory, out_of_memory_later, out_of_memory_told, read_failed, read_failed_later, write_failed}
use Rattle.run_laws.proofs.OneAnswer.{answer_to}
use Rattle.commands.proofs.Rows.{one_request}
use Rattle.headline.specs.Histories.{AreMoments, HasHistory}
use Rattle.headline.proofs.ClientEnding.{not_link, not_memory, not_read, not_refused, not_write}
use Rattle.headline.proofs.SessionHistories.{GoesOn, on_none, on_then, session_on}

-- ---- lists of lists

pub at_length : (xs ys : List (List ℕ)) (n k : ℕ) → n ≡ length xs + k → get_or (xs ++ ys) n [] ≡ get_or ys k []
at_length [] ys n k e = let same : n ≡ k = omega (arith, e) in ap (λ (i : ℕ). get_or ys i []) same
at_length (x ∷ xs) ys zero k e = absurd (omega (arith, e))
at_length (x ∷ xs) ys (suc n) k e = at_length xs ys n k (omega (arith, e))

below_length : (xs ys : List (List ℕ)) (k : ℕ) → k < length xs → get_or (xs ++ ys) k [] ≡ get_or xs k []
below_length [] ys k lt = absurd (omega (arith, lt))
below_length (x ∷ xs) ys zero lt = refl
below_length (x ∷ xs) ys (suc k) lt = below_length xs ys k (omega (arith, lt))

-- ---- one of some sessions

-- the session with the number k, after those before it, and its server goes on to that after all
pub record IsAmong (p : ProfileView) (s : ServerState) (given : List (List ℕ)) (moments : List ℕ) (k : ℕ) (r : Total) : Type 0 where
  pub before : Total
  pub sessions : Sessions IsAny p s given moments k before
  pub out : List ℕ
  pub server : ServerState
  pub more : List Entry
  pub ended : SessionEnd
  pub session : Session p before.server (get_or moments k 0) (get_or given k []) out server more ended
  pub at : get_or r.sent k [] ≡ out
  pub earlier : (i : ℕ) → i < k → get_or r.sent i [] ≡ get_or before.sent i []
  pub on : AreMoments moments → (h : List Doing) → HasHistory h server → GoesOn (IsProfile p × ListsOfBytes given) h r.server

module _ (p : ProfileView) (s : ServerState) (given : List (List ℕ)) (moments : List ℕ) where
  abbrev Read : Type 0
  Read = IsProfile p × ListsOfBytes given

  sent_long : (n : ℕ) (r : Total) → Sessions IsAny p s given moments n r → length r.sent ≡ n
  sent_long zero r is = ap (λ (x : Total). length x.sent) is
  sent_long (suc n) r (q, e, out, t, more, h, any, session, is) =
      let all = ap (λ (x : Total). length x.sent) is in
      let first = sent_long n q h in
      omega (arith, all, length-append q.sent (out ∷ []), first)

  pub is_among : (n : ℕ) (r : Total) → Sessions IsAny p s given moments n r → (k : ℕ) → k < n → IsAmong p s given moments k r
  is_among zero r h k less = absurd (omega (arith, less))
  is_among (suc n) r (q, e, out, t, more, h, any, session, is) k less =
      let long = sent_long n q h in
      let last : t ≡ r.server = sym (ap (λ (x : Total). x.server) is) in
      elim (eq-or-lt_of_le {n = k} {m = n} (omega (arith, less))) as (λ z. IsAmong p s given moments k r) [
        | inl same ↦ subst (λ (z : ℕ). IsAmong p s given moments z r) (sym same) (record {
          before = q;
          sessions = h;
          out = out;
          server = t;
          more = more;
          ended = e;
          session = session;
          at = ap (λ (x : Total). get_or x.sent n []) is ∙ at_length q.sent (out ∷ []) n 0 (omega (arith, long));
          earlier = λ i lt. ap (λ (x : Total). get_or x.sent i []) is ∙ below_length q.sent (out ∷ []) i (omega (arith, long, lt));
          on = λ low f b. subst (GoesOn Read f) last (on_none Read f t b);
        })
        | inr sooner ↦ (let a = is_among n q h k sooner in record {
          before = a.before;
          sessions = a.sessions;
          out = a.out;
          server = a.server;
          more = a.more;
          ended = a.ended;
          session = a.session;
          at = ap (λ (x : Total). get_or x.sent k []) is ∙ below_length q.sent (out ∷ []) k (omega (arith, long, sooner)) ∙ a.at;
          earlier = λ i lt. ap (λ (x : Total). get_or x.sent i []) is ∙ below_length q.sent (out ∷ []) i (omega (arith, long, sooner, lt)) ∙ a.earlier i lt;
          on = λ low f b. (let (some, c, read) = a.on low f b in
              subst (GoesOn Read f) last (on_then Read f some t read (session_on Read p (f ++ some) q.server q.server (get_or moments n 0) (get_or given n []) out t more e (λ z. (z.0, given_bytes given z.1 n)) (low n) c refl session)));
        })
      ]

-- ---- a run

-- the session k of a run, and what was written to its link
pub record Served (schema : List ℕ) (k : ℕ) (v w : View) : Type 0 where
  pub p : ProfileView
  pub text : IsProfileText schema p
  pub total : Total
  pub among : IsAmong p new_server v.links v.moments k total
  pub links : w.written.links ≡ v.written.links ++ total.sent

-- what was written to the link of one of its sessions
pub written_at : (v w : View) (total : Total) (i : ℕ) → w.written.links ≡ v.written.links ++ total.sent → get_or w.written.links (length v.written.links + i) [] ≡ get_or total.sent i []
written_at v w total i is = ap (λ (l : List (List ℕ)). get_or l (length v.written.links + i) []) is ∙ at_length v.written.links total.sent (length v.written.links + i) i refl

module _ (schema_name address : List ℕ) (n : ℕ) (schema : List ℕ) (v w : View) (has : HasFile v.files schema_name schema) (k : ℕ) (less : k < n) where
  of_sessions : (p : ProfileView) → IsProfileText schema p → (a : Answer) → OfSessions new_server address IsAny n v.links v.moments p a → Leaves a v w → Served schema k v w
  of_sessions p text a (r, sessions, is) leaves = record {
    p = p;
    text = text;
    total = r;
    among = is_among p new_server v.links v.moments n r sessions k less;
    links = leaves.links ∙ ap (λ (x : Answer). v.written.links ++ x.links) is;
  }

  of_profile : (a : Answer) (S : Declared) → IsSchemaText schema S → OfProfile (OfSessions new_server address IsWhole n v.links v.moments) S a → Done ≡ a.status → Leaves a v w → Served schema k v w
  of_profile a S read (no_profile f answers is) ends leaves = absurd (not_refused (ends ∙ ap (λ (x : Answer). x.status) is))
  of_profile a S read (profiled p answers (r, sessions, is)) ends leaves = of_sessions p (record { schema = S; read = read; is = answers }) a (r, any_of p new_server v.links v.moments n r sessions, is) leaves

  of_text : (a : Answer) → OfSchemaText (codes "schema") (OfProfile (OfSessions new_server address IsWhole n v.links v.moments)) schema a → Done ≡ a.status → Leaves a v w → Served schema k v w
  of_text a (no_schema cause refuses is) ends leaves = absurd (not_refused (ends ∙ ap (λ (x : Answer). x.status) is))
  of_text a (schema_of S read told) ends leaves = of_profile a S read told ends leaves

  of_answer : (a : Answer) → ServeAnswer v.files v.links v.moments schema_name address n a → Done ≡ a.status → Leaves a v w → Served schema k v w
  of_answer a (text, there, told) ends leaves =
      of_text a (subst (λ (t : List ℕ). OfSchemaText (codes "schema") (OfProfile (OfSessions new_server address IsWhole n v.links v.moments)) t a) (same_file v.files schema_name text schema there has) told) ends leaves

  of_broken : (a : Answer) → (job_of (serve schema_name address n)).broken v a → Done ≡ a.status → Leaves a v w → Served schema k v w
  of_broken a (h, told) ends leaves = of_sessions h.p (subst (λ (t : List ℕ). IsProfileText t h.p) (same_file v.files schema_name h.text schema h.there has) h.is) a told leaves

  module _ (words : List (List ℕ)) (t : List Event) (asks : AsksFor words (serve schema_name address n)) where
    of_may : (a : Answer) → MayAnswer words (LinkFailed t) v a → Done ≡ a.status → Leaves a v w → Served schema k v w
    of_may a (inl h) ends leaves = of_answer a (answer_to words v (serve schema_name address n) a asks h) ends leaves
    of_may a (inr (rose, r, also, broken)) ends leaves = of_broken a (subst (λ (x : RequestText). (job_of x).broken v a) (one_request words r (serve schema_name address n) also asks) broken) ends leaves

    pub serve_ends : Ends words t Done v w → Served schema k v w
    serve_ends (answered a may ends output leaves tells) = of_may a may ends leaves
    serve_ends (read_failed one rose is output tells) = absurd (not_read is)
    serve_ends (read_failed_later rose is s on) = absurd (not_read is)
    serve_ends (write_failed rose is s) = absurd (not_write is)
    serve_ends (link_failed rose is s) = absurd (not_link is)
    serve_ends (out_of_memory is output tells) = absurd (not_memory is)
    serve_ends (out_of_memory_later is s pieces) = absurd (not_memory is)
    serve_ends (out_of_memory_told is r also tells u before told) = absurd (not_memory is)
