-- A line on Errors leaves what each job keeps.
use Rattle.std.proofs.Common.{ℕ, List, refl, ap, subst, sym, inl}
use Rattle.tl_base.specs.Outside.{View}
use Rattle.outside.specs.Kept.{KeepsRest, KeepsUnread, OnlyErrors}
use Rattle.session_commands.specs.Linked.{KeepsFiles, LeavesLinks}
use Rattle.session_commands.specs.Post.{PostKeeps}
use Rattle.session_commands.specs.Serve.{ServeKeeps}
use Rattle.commands.specs.Requests.{RequestText, check, decode, encode, replay, make, serve, post, client, layers, calls}
use Rattle.run_laws.specs.Requests.{job_of}

module _ (v w : View) (is : OnlyErrors v w) where
  rest : KeepsRest v w
  rest = subst (λ (x : View). KeepsRest v x) (sym is) refl

  unread : (came : Type 0) → KeepsUnread came v w
  unread came = record { rest = rest; input = inl (ap (λ (x : View). x.left.input) is) }

  files : KeepsFiles v w
  files = record { files = ap (λ (x : View). x.files) is; moments = ap (λ (x : View). x.moments) is; room = ap (λ (x : View). x.room) is }

  links : (came : Type 0) → LeavesLinks came v w
  links came = inl (ap (λ (x : View). x.links) is, ap (λ (x : View). x.written.links) is, ap (λ (x : View). x.address) is)

  posts : (schema input : List ℕ) → PostKeeps schema input v w
  posts schema input = record {
    rest = files;
    state = (ap (λ (x : View). x.written.state) is, ap (λ (x : View). x.state_name) is);
    input = inl (ap (λ (x : View). x.left.input) is);
    links = links _;
  }

  serves : (schema : List ℕ) → ServeKeeps schema v w
  serves schema = record {
    rest = record {
      files = ap (λ (x : View). x.files) is;
      room = ap (λ (x : View). x.room) is;
      state = (ap (λ (x : View). x.written.state) is, ap (λ (x : View). x.state_name) is);
      input = ap (λ (x : View). x.left.input) is;
    };
    links = links _;
    moments = inl (ap (λ (x : View). x.moments) is);
  }

  pub job_keeps : (r : RequestText) → (job_of r).keeps v w
  job_keeps (check schema) = unread _
  job_keeps (decode schema type input) = unread _
  job_keeps (encode schema type input) = unread _
  job_keeps (replay schema journal clients) = unread _
  job_keeps (make schema number steps) = unread _
  job_keeps (serve schema address sessions) = serves schema
  job_keeps (post schema address input) = posts schema input
  job_keeps (client schema address state channels) = record {
    rest = files;
    input = ap (λ (x : View). x.left.input) is;
    state = inl (ap (λ (x : View). x.written.state) is, ap (λ (x : View). x.state_name) is);
    links = links _;
  }
  job_keeps (layers old new type) = unread _
  job_keeps (calls schema input) = unread _
