-- The text of what was written, and of what is shown.
use Rattle.std.proofs.Common.{◌≡◌, ℕ, List, [], ◌∷◌, ◌++◌, refl, sym, ap, ◌∙◌, append-nil}
use Rattle.json.specs.Print.{print, print_from, quoted}
use Rattle.json.specs.Token.{Token, key, string}
use Rattle.json.specs.Written.{Written}
use Rattle.serde_json.specs.Written.{compact_text}
use Rattle.tl_schema.specs.Types.{Shape}
use Rattle.tl_schema.specs.Closing.{closed}
use Rattle.tl_schema.specs.Schemas.{Declared}
use Rattle.tl_types.specs.Values.{ValueView}
use Rattle.tl_types.proofs.Closings.{closed_none}
use Rattle.tl_show.specs.Shown.{shown}
use Rattle.tl_show.specs.inner.Forms.{AreForms, FormView, written}
use Rattle.tl_show.specs.inner.Lines.{PrintAsShown}
use Rattle.tl_show.proofs.FormedRecords.{as_shown}
use Rattle.tl_show.proofs.Putting.{same_put}

-- what a writer of one token leaves
pub one_printed : (old new : Written) (t : Token) (start text : List ℕ) → old.before ≡ start → old.tokens ≡ [] → new.before ≡ old.before → new.tokens ≡ old.tokens ++ t ∷ []
    → text ≡ new.before ++ print new.tokens → text ≡ start ++ print (t ∷ [])
one_printed old new t start text first none kept added is = is ∙ rw (kept, added, first, none) refl

pub print-key : (k : List ℕ) → print (key k ∷ []) ≡ quoted k ++ 58 ∷ []
unfolding print_from
print-key k = append-nil (quoted k ++ 58 ∷ [])

pub print-string : (s : List ℕ) → print (string s ∷ []) ≡ quoted s
unfolding print_from
print-string s = append-nil (quoted s)

-- the forms of a schema's declarations write what is shown
pub print_as_shown : (schema : Declared) (fs : List FormView) → AreForms schema.decls fs → PrintAsShown schema fs
print_as_shown schema fs are = λ T v. ap compact_text (as_shown schema.decls fs are T v)

pub put_as_shown : {S : Type 0} (puts : S → S → List ℕ → Type 0) (x y : S) (schema : Declared) (fs : List FormView) (T : Shape) (v : ValueView) → PrintAsShown schema fs
    → puts x y (compact_text (written fs (closed [] T) v)) → puts x y (compact_text (shown schema.decls T v))
put_as_shown puts x y schema fs T v known put =
    same_put puts x y _ _ (sym (known T v) ∙ ap (λ (U : Shape). compact_text (written fs U v)) (sym (closed_none T))) put
