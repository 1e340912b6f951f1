-- The table of requests: what words ask for. This project's own.
use Rattle.std.specs.Prelude.{◌≡◌, ◌≢◌, ◌≤◌, ℕ, ℤ, pos, negsuc, List, [], ◌∷◌, Option, Some, None, codes}
use Rattle.commands.specs.Numbers.{IsNumberWord}
use Rattle.commands.specs.declared.number.Range.{Range}
use Rattle.commands.specs.declared.request.Request.{Request}
use Rattle.commands.specs.declared.request.Request.TheVariants.{Calls, Check, Client, Decode, Encode, Layers, Make, Post, Replay, Serve}

-- what a run is asked for, each operand as its bytes or its number
pub data RequestText : Type 0 where
  check : (schema : List ℕ) → RequestText
  decode : (schema type input : List ℕ) → RequestText
  encode : (schema type input : List ℕ) → RequestText
  replay : (schema journal : List ℕ) → (clients : ℕ) → RequestText
  make : (schema : List ℕ) → (number steps : ℕ) → RequestText
  serve : (schema address : List ℕ) → (sessions : ℕ) → RequestText
  post : (schema address input : List ℕ) → RequestText
  client : (schema address state : List ℕ) → (channels : List ℤ) → RequestText
  layers : (old new type : List ℕ) → RequestText
  calls : (schema input : List ℕ) → RequestText

-- a word that may be an operand: it is not empty and does not begin with `-`
abbrev pub IsOperand : List ℕ → Type 0
IsOperand [] = ⊥
IsOperand (b ∷ bs) = b ≢ 45

-- how many clients a replay has
abbrev pub clients_range : Range
clients_range = record { digits = 10; least = 1; most = 16 }

-- the number that a made run is drawn of, and how many steps it has
abbrev pub run_range : Range
run_range = record { digits = 10; least = 0; most = 9999999999 }

abbrev pub steps_range : Range
steps_range = record { digits = 10; least = 1; most = 100000 }

-- how many sessions a server has
abbrev pub sessions_range : Range
sessions_range = record { digits = 10; least = 1; most = 1000000 }

-- the ids of channels in words
abbrev pub channel_range : Range
channel_range = record { digits = 19; least = 0; most = 9223372036854775807 }

-- the word is a channel: no negative one is a word
abbrev pub IsChannelWord : List ℕ → ℤ → Type 0
IsChannelWord word (pos id) = IsNumberWord channel_range word id
IsChannelWord word (negsuc k) = ⊥

-- each word is its channel
abbrev pub AreChannels : List (List ℕ) → List ℤ → Type 0
AreChannels [] [] = Unit {0}
AreChannels (w ∷ ws) (id ∷ ids) = IsChannelWord w id × AreChannels ws ids
AreChannels _ _ = ⊥

-- the words are the request's row: `check SCHEMA`, `decode SCHEMA TYPE INPUT`, `encode SCHEMA TYPE INPUT`, `replay SCHEMA JOURNAL CLIENTS`,
-- `make SCHEMA NUMBER STEPS`, `serve SCHEMA ADDRESS SESSIONS`, `post SCHEMA ADDRESS INPUT`, `client SCHEMA ADDRESS STATE [CHANNEL ..]`, `layers OLD NEW TYPE`,
-- `calls SCHEMA INPUT`
abbrev pub AsksFor : List (List ℕ) → RequestText → Type 0
AsksFor words (check schema) = (words ≡ codes "check" ∷ schema ∷ []) × IsOperand schema
AsksFor words (decode schema type input) = (words ≡ codes "decode" ∷ schema ∷ type ∷ input ∷ []) × IsOperand schema × IsOperand type × IsOperand input
AsksFor words (encode schema type input) = (words ≡ codes "encode" ∷ schema ∷ type ∷ input ∷ []) × IsOperand schema × IsOperand type × IsOperand input
AsksFor words (replay schema journal clients) = (n : List ℕ) × (words ≡ codes "replay" ∷ schema ∷ journal ∷ n ∷ []) × IsOperand schema × IsOperand journal × IsNumberWord clients_range n clients
AsksFor words (make schema number steps) =
    (n s : List ℕ) × (words ≡ codes "make" ∷ schema ∷ n ∷ s ∷ []) × IsOperand schema × IsNumberWord run_range n number × IsNumberWord steps_range s steps
AsksFor words (serve schema address sessions) =
    (n : List ℕ) × (words ≡ codes "serve" ∷ schema ∷ address ∷ n ∷ []) × IsOperand schema × IsOperand address × IsNumberWord sessions_range n sessions
AsksFor words (post schema address input) = (words ≡ codes "post" ∷ schema ∷ address ∷ input ∷ []) × IsOperand schema × IsOperand address × IsOperand input
AsksFor words (client schema address state channels) =
    (more : List (List ℕ)) × (words ≡ codes "client" ∷ schema ∷ address ∷ state ∷ more) × IsOperand schema × IsOperand address × IsOperand state × AreChannels more channels
AsksFor words (layers old new type) = (words ≡ codes "layers" ∷ old ∷ new ∷ type ∷ []) × IsOperand old × IsOperand new × IsOperand type
AsksFor words (calls schema input) = (words ≡ codes "calls" ∷ schema ∷ input ∷ []) × IsOperand schema × IsOperand input

-- the words are those of no request
abbrev pub AsksNothing : List (List ℕ) → Type 0
AsksNothing words = (r : RequestText) → AsksFor words r → ⊥

-- the words are those of a request
abbrev pub AskForOne : List (List ℕ) → Type 0
AskForOne words = (r : RequestText) × AsksFor words r

-- words ask for nothing, or for a request
pub data Asks (words : List (List ℕ)) : Type 0 where
  nothing : AsksNothing words → Asks words
  something : (r : RequestText) → AsksFor words r → Asks words

-- ---- the request of the program

abbrev pub request_text : Request → RequestText
request_text (Check schema) = check schema.now
request_text (Decode schema type input) = decode schema.now type.now input.now
request_text (Encode schema type input) = encode schema.now type.now input.now
request_text (Replay schema journal clients) = replay schema.now journal.now clients
request_text (Make schema number steps) = make schema.now number steps
request_text (Serve schema address sessions) = serve schema.now address.now sessions
request_text (Post schema address input) = post schema.now address.now input.now
request_text (Client schema address state channels) = client schema.now address.now state.now channels.items
request_text (Layers old new type) = layers old.now new.now type.now
request_text (Calls schema input) = calls schema.now input.now

-- its numbers are those that its row takes
abbrev pub IsInRange : RequestText → Type 0
IsInRange (replay schema journal clients) = (1 ≤ clients) × (clients ≤ 16)
IsInRange (make schema number steps) = (1 ≤ steps) × (steps ≤ 100000)
IsInRange (serve schema address sessions) = (1 ≤ sessions) × (sessions ≤ 1000000)
IsInRange r = Unit {0}

-- the request that the words ask for, or none where they ask for none
abbrev pub FindsRequest : List (List ℕ) → Option Request → Type 0
FindsRequest words (Some request) = AsksFor words (request_text request)
FindsRequest words None = AsksNothing words
