-- What is told of two schemas' texts, from what is made of each part.
use Rattle.std.proofs.Common.{◌≡◌, ℕ, List, Ok, Err, codes, sym, ap, subst}
use Rattle.std.specs.Prelude.{IsErrAnd}
use Rattle.tl_schema.specs.Types.{Shape}
use Rattle.tl_schema.specs.Schemas.{Declared}
use Rattle.tl_schema.specs.AskedTypes.{IsTypeText}
use Rattle.outside.specs.Answer.{Answer, refused}
use Rattle.outside.specs.Loading.{Refuses}
use Rattle.outside.specs.declared.stop.LoadError.{LoadError}
use Rattle.outside.proofs.Loaded.{refuses_as}
use Rattle.schema_files.specs.Answering.{OfSchemaText, no_schema, schema_of}
use Rattle.schema_files.specs.Loaded.{IsSchemaText}
use Rattle.schema_files.specs.Parts.{TellsSchema, TellsType}
use Rattle.codec_commands.specs.Layers.{OfLayers, TellsLayers}
use Rattle.tl_codec.specs.Codings.{Made}
use Rattle.tl_codec.specs.Comparing.{MakesAnswer, OfTypeText, no_type, typed}

makes_as : (P Q : Answer → Type 0) (r : Made) → ((a : Answer) → P a → Q a) → MakesAnswer P r → MakesAnswer Q r
makes_as P Q (Ok out) f h = f _ h
makes_as P Q (Err fault) f h = refuses_as (λ line. P (refused line)) (λ line. Q (refused line)) fault (λ line. f (refused line)) h

-- at the exit of a `?`
stopped : (Says : List ℕ → Type 0) (Q : Answer → Type 0) (fault : LoadError) (r : Made) → ((line : List ℕ) → Says line → Q (refused line)) → Refuses Says fault → IsErrAnd r (λ z. z ≡ fault) → MakesAnswer Q r
stopped Says Q fault (Ok out) f told is = absurd is
stopped Says Q fault (Err z) f told is = subst (Refuses (λ line. Q (refused line))) (sym is) (refuses_as Says (λ line. Q (refused line)) fault f told)

module _ (what : List ℕ) (Rest : Declared → Answer → Type 0) (text : List ℕ) where
  pub no_schema_told : (fault : LoadError) (r : Made) → Refuses (TellsSchema what text) fault → IsErrAnd r (λ z. z ≡ fault) → MakesAnswer (OfSchemaText what Rest text) r
  no_schema_told fault r = stopped (TellsSchema what text) (OfSchemaText what Rest text) fault r (λ line (cause, why, is). no_schema cause why (ap refused is))

  pub schema_told : (schema : Declared) (r : Made) → IsSchemaText text schema → MakesAnswer (Rest schema) r → MakesAnswer (OfSchemaText what Rest text) r
  schema_told schema r is = makes_as (Rest schema) (OfSchemaText what Rest text) r (λ a h. schema_of schema is h)

module _ (old : Declared) (new type : List ℕ) where
  pub no_type_told : (fault : LoadError) (r : Made) → Refuses (TellsType old type) fault → IsErrAnd r (λ z. z ≡ fault) → MakesAnswer (OfTypeText old new type) r
  no_type_told fault r = stopped (TellsType old type) (OfTypeText old new type) fault r (λ line (cause, why, is). no_type cause why (ap refused is))

  module _ (T : Shape) (means : IsTypeText old.program type T) where
    type_told : (r : Made) → MakesAnswer (OfSchemaText (codes "new") (λ S. OfLayers old S T) new) r → MakesAnswer (OfTypeText old new type) r
    type_told r = makes_as (OfSchemaText (codes "new") (λ S. OfLayers old S T) new) (OfTypeText old new type) r (λ a h. typed T means h)

    pub no_new_told : (fault : LoadError) (r : Made) → Refuses (TellsSchema (codes "new") new) fault → IsErrAnd r (λ z. z ≡ fault) → MakesAnswer (OfTypeText old new type) r
    no_new_told fault r told is = type_told r (no_schema_told (codes "new") (λ S. OfLayers old S T) new fault r told is)

    layers_told : (S : Declared) (r : Made) → TellsLayers old S T r → MakesAnswer (OfLayers old S T) r
    layers_told S (Ok line) h = h
    layers_told S (Err fault) h = h

    pub both_told : (S : Declared) (r : Made) → IsSchemaText new S → TellsLayers old S T r → MakesAnswer (OfTypeText old new type) r
    both_told S r is tells = type_told r (schema_told (codes "new") (λ X. OfLayers old X T) new S r is (layers_told S r tells))
