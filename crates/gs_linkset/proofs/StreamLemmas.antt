-- The contexts of items and the values of tokens, one after another.
use Rattle.std.proofs.Common.{◌≡◌, ℕ, suc, ◌+◌, ◌<◌, ◌≤◌, ◌-◌, List, [], ◌∷◌, ◌++◌, length, true, false, Option, Some, None, refl, sym, ap, subst, ◌∙◌, inr, arith, option_map, option_and_then}
use Rattle.std.specs.Prelude.{⊤, Result, Ok, Err, IfOk, OnOk, is_some, option_to_list}
use Rattle.std.specs.List.{enumerate_from, flat_map}
use Rattle.std.specs.Option.{option_map_or}
use Rattle.std.proofs.lemmas.List.{append-nil, map-append, length-map}
use Rattle.json.specs.Token.{Token}
use Rattle.json.specs.Lex.{tokens}
use Rattle.json.specs.Json as json
use Rattle.json.specs.Json.{Parse, after_end_array, if_last, items, members, parse_map, read_key, value, value_with}
use Rattle.json.proofs.Grammar.{read_key-shorter, value_is}
use Rattle.serde_json.specs.Data.{Data, number, array, object, Items, no_items, item, Members, no_members, put}
use Rattle.serde_json.specs.Find.{as_object}
use Rattle.serde_json.specs.Read.{converted, number_of, of_items, of_json, of_members, read as read_text}
use Rattle.gs_chars.specs.Answers.{first_or, OrError}
use Rattle.gs_json.specs.Members.{array_in}
use Rattle.gs_json.specs.Places.{item_place}
use Rattle.gs_json.specs.Shapes.{items_list}
use Rattle.gs_json.specs.declared.error.JsonFault.{JsonFault}
use Rattle.gs_json.proofs.ValueLoops.{converted-array, converted-object, converted_some, item_read, item_refused, items_over, key_refused, member_read, member_refused, members_over, array_opened, object_opened}
use Rattle.gs_json.specs.declared.error.JsonFault.TheVariants.{Kind, Syntax, Memory}
use Rattle.gs_linkset.specs.Answers.{document_answer}
use Rattle.gs_linkset.specs.AnswersSupport.{contexts_answer, linkset_answer, linkset_place}
use Rattle.gs_linkset.specs.Documents.{context_errors, context_of, item_errors}
use Rattle.gs_linkset.specs.Tokens.{AreRead, Begins, IsAnswer, items_from, members_from, opens_array, opens_object, value_from}
use Rattle.gs_linkset.specs.declared.document.Contexts.{Contexts}
use Rattle.gs_linkset.specs.declared.link_types.Context.{Context}
use Rattle.gs_linkset.proofs.DocumentLemmas.{linkset_is, no_linkset, no_object}
use Rattle.gs_linkset.proofs.ReadLemmas.{error_in_front, none_first, same_error}

-- ---- items, one more at the end

joined : {X : Type 0} (ws bs cs : List X) → ws ++ (bs ++ cs) ≡ ws ++ bs ++ cs
joined [] bs cs = refl
joined (a ∷ ws) bs cs = ap (λ xs. a ∷ xs) (joined ws bs cs)

module _ (errors : List ℕ → Data → List JsonFault) (place : List ℕ) (d : Data) where
  abbrev row_errors : ℕ × Data → List JsonFault
  row_errors row = errors (item_place place row.0) row.1

  errors_from : (n : ℕ) (items : List Data)
      → flat_map row_errors (enumerate_from n (items ++ d ∷ [])) ≡ flat_map row_errors (enumerate_from n items) ++ errors (item_place place (n + length items)) d
  errors_from n [] = let same : n ≡ n + 0 = omega arith in append-nil _ ∙ ap (λ i. errors (item_place place i) d) same
  errors_from n (x ∷ items) =
      let same : n + 1 + length items ≡ n + suc (length items) = omega arith in
      ap (λ es. errors (item_place place n) x ++ es) (errors_from (n + 1) items ∙ ap (λ i. flat_map row_errors (enumerate_from (n + 1) items) ++ errors (item_place place i) d) same)
      ∙ joined (errors (item_place place n) x) (flat_map row_errors (enumerate_from (n + 1) items)) (errors (item_place place (n + suc (length items))) d)

  errors_more : (items : List Data) → item_errors errors place (items ++ d ∷ []) ≡ item_errors errors place items ++ errors (item_place place (length items)) d
  errors_more items = let same : 0 + length items ≡ length items = omega arith in errors_from 0 items ∙ ap
      (λ i. item_errors errors place items ++ errors (item_place place i) d) same

module _ (items : List Data) (d : Data) where
  -- after an error the first one stays
  pub error_stays : (e : JsonFault) → OrError Memory (Err e) (contexts_answer items) → OrError Memory (Err e) (contexts_answer (items ++ d ∷ []))
  unfolding contexts_answer
  error_stays e h = rw (errors_more context_errors linkset_place d items) (error_in_front (item_errors context_errors linkset_place items) _ _ _ e h)

  module _ (read : List Context) (so_far : OrError Memory (Ok read) (contexts_answer items)) where
    -- the next item's error is the first
    pub error_comes : (e : JsonFault)
        → OrError Memory (Err e) (first_or (context_errors (item_place linkset_place (length read)) d) (context_of d))
        → OrError Memory (Err e) (contexts_answer (items ++ d ∷ []))
    unfolding contexts_answer
    error_comes e h =
        let known = none_first _ _ read so_far in
        let count = ap length known.1 ∙ length-map items context_of in
        rw (errors_more context_errors linkset_place d items, known.0) (same_error _ _ _ e (rw count at h))

    pub context_more : (context : Context) (more : List Context)
        → OrError Memory (Ok context) (first_or (context_errors (item_place linkset_place (length read)) d) (context_of d))
        → more ≡ read ++ context ∷ []
        → OrError Memory (Ok more) (contexts_answer (items ++ d ∷ []))
    unfolding contexts_answer
    context_more context more h e =
        let known = none_first _ _ read so_far in
        let count = ap length known.1 ∙ length-map items context_of in
        let own = none_first _ _ context (rw count at h) in
        rw (errors_more context_errors linkset_place d items, known.0, own.0, e, own.1, known.1, map-append) (inr refl)

module _ (fault : Option JsonFault) (read : List Context) (items : List Data) (d : Data)
    (so_far : OrError Memory (first_or (option_to_list fault) read) (contexts_answer items)) where
  pub stays : true ≡ is_some fault → OrError Memory (first_or (option_to_list fault) read) (contexts_answer (items ++ d ∷ []))
  stays h = by fault h so_far
    where
      by : (f : Option JsonFault) → true ≡ is_some f → OrError Memory (first_or (option_to_list f) read) (contexts_answer items)
          → OrError Memory (first_or (option_to_list f) read) (contexts_answer (items ++ d ∷ []))
      by None h so_far = absurd (let g : true ≡ false = h in cc)
      by (Some e) h so_far = error_stays items d e so_far

  pub failed : (e : JsonFault) → false ≡ is_some fault
      → OrError Memory (Err e) (first_or (context_errors (item_place linkset_place (length read)) d) (context_of d))
      → OrError Memory (Err e) (contexts_answer (items ++ d ∷ []))
  failed e h own = by fault h so_far
    where
      by : (f : Option JsonFault) → false ≡ is_some f → OrError Memory (first_or (option_to_list f) read) (contexts_answer items)
          → OrError Memory (Err e) (contexts_answer (items ++ d ∷ []))
      by None h so_far = error_comes items d read so_far e own
      by (Some _) h so_far = absurd (let g : false ≡ true = h in cc)

  pub added : (context : Context) (more : List Context) → false ≡ is_some fault
      → OrError Memory (Ok context) (first_or (context_errors (item_place linkset_place (length read)) d) (context_of d))
      → more ≡ read ++ context ∷ []
      → OrError Memory (first_or (option_to_list fault) more) (contexts_answer (items ++ d ∷ []))
  added context more h own e = by fault h so_far
    where
      by : (f : Option JsonFault) → false ≡ is_some f → OrError Memory (first_or (option_to_list f) read) (contexts_answer items)
          → OrError Memory (first_or (option_to_list f) more) (contexts_answer (items ++ d ∷ []))
      by None h so_far = context_more items d read so_far context more own e
      by (Some _) h so_far = absurd (let g : false ≡ true = h in cc)

-- a fact that follows from one that holds after success
pub done : {U E A B : Type 0} (r : Result U E) → IfOk r (λ _. A) → (A → B) → OnOk r B
done (Ok u) h f = f h
done (Err e) h f = tt

-- no item has no error
pub none_read : OrError Memory (Ok []) (contexts_answer [])
unfolding contexts_answer
none_read = inr refl

-- ---- the items before others

abbrev pub before : List Data → Items → Items
before [] rest = rest
before (d ∷ ds) rest = item d (before ds rest)

pub listed : (ds : List Data) → items_list (before ds no_items) ≡ ds
listed [] = refl
listed (d ∷ ds) = ap (λ es. d ∷ es) (listed ds)

before_more : (ds : List Data) (d : Data) (rest : Items) → before ds (item d rest) ≡ before (ds ++ d ∷ []) rest
before_more [] d rest = refl
before_more (e ∷ ds) d rest = ap (item e) (before_more ds d rest)

pub one_more : (ds : List Data) (d : Data) (r : Option (Items × List Token))
    → parse_map (before ds) (parse_map (item d) r) ≡ parse_map (before (ds ++ d ∷ [])) r
one_more ds d None = refl
one_more ds d (Some p) = ap (λ items. Some (items, p.1)) (before_more ds d p.0)

pub none_before : (r : Option (Items × List Token)) → r ≡ parse_map (before []) r
none_before None = refl
none_before (Some p) = refl

-- ---- the loops

-- the known facts between two items
pub record ItemsSoFar (depth : ℕ) (initial ts : List Token) (contexts : Contexts) : Type 0 where
  pub turns : ℕ
  pub found : List Data
  pub enough : length ts ≤ turns
  pub as_whole : items_from depth initial ≡ parse_map (before found) (converted of_items (items (value depth) turns ts))
  pub shorter : length ts ≤ length initial
  pub read : AreRead contexts found

pub no_item_yet : (depth : ℕ) (ts : List Token) (contexts : Contexts) → AreRead contexts [] → ItemsSoFar depth ts ts contexts
no_item_yet depth ts contexts h = record { turns = length ts; found = []; enough = omega arith; as_whole = none_before _; shorter = omega arith; read = h }

module _ (depth : ℕ) (initial ts r : List Token) (old : Contexts) (so_far : ItemsSoFar depth initial ts old) where
  pub item_next : (new : Contexts) (d : Data) → after_end_array ts ≡ None → converted of_json (value depth ts) ≡ Some (d, r)
      → length r < length ts → ((found : List Data) → AreRead old found → AreRead new (found ++ d ∷ []))
      → ItemsSoFar depth initial r new
  item_next new d going e less add = record {
    turns = so_far.turns - 1;
    found = so_far.found ++ d ∷ [];
    enough = omega (arith, so_far.enough);
    as_whole = so_far.as_whole ∙ ap (parse_map (before so_far.found))
        (item_read (value depth) so_far.turns ts r d (omega (arith, so_far.enough)) going e) ∙ one_more so_far.found d _;
    shorter = omega (arith, so_far.shorter);
    read = add so_far.found so_far.read;
  }

  pub item_stops : after_end_array ts ≡ None → converted of_json (value depth ts) ≡ None → items_from depth initial ≡ None
  item_stops going none = so_far.as_whole ∙ ap (parse_map (before so_far.found)) (item_refused (value depth) so_far.turns ts going none)

  pub items_end : (answer : Result (List Context) JsonFault) → after_end_array ts ≡ Some r
      → answer ≡ first_or (option_to_list old.fault) old.read.items
      → Begins (items_from depth initial) (λ items. OrError Memory answer (contexts_answer (items_list items))) r
  items_end answer end e = record {
    first = before so_far.found no_items;
    is = so_far.as_whole ∙ ap (parse_map (before so_far.found)) (items_over (value depth) so_far.turns ts r so_far.enough end);
    has = rw (e, listed so_far.found) so_far.read.0;
  }

-- the known facts between two members
pub record MembersSoFar (depth : ℕ) (initial ts : List Token) (answer : Result (List Context) JsonFault) : Type 0 where
  pub turns : ℕ
  pub known : Members
  pub enough : length ts ≤ turns
  pub as_whole : members_from depth initial ≡ converted (λ ms. of_members ms known) (members (value depth) turns ts)
  pub shorter : length ts ≤ length initial
  pub answers : IsAnswer answer known

pub no_member_yet : (depth : ℕ) (ts : List Token) (answer : Result (List Context) JsonFault) → IsAnswer answer no_members → MembersSoFar depth ts ts answer
no_member_yet depth ts answer h = record { turns = length ts; known = no_members; enough = omega arith; as_whole = refl; shorter = omega arith; answers = h }

module _ (depth : ℕ) (initial ts s : List Token) (old : Result (List Context) JsonFault) (so_far : MembersSoFar depth initial ts old) where
  pub member_next : (r : List Token) (name : List ℕ) (new : Result (List Context) JsonFault) → read_key ts ≡ Some (Some name, s) → length r < length s
      → ((known : Members) → IsAnswer old known → Begins (value_from depth s) (λ d. IsAnswer new (put name d known)) r) → MembersSoFar depth initial r new
  member_next r name new key less add =
      let next = add so_far.known so_far.answers in
      let lesser = read_key-shorter ts (Some name) s key in
      record {
        turns = so_far.turns - 1;
        known = put name next.first so_far.known;
        enough = omega (arith, so_far.enough);
        as_whole = so_far.as_whole ∙ member_read (value depth) so_far.known so_far.turns name ts s r next.first (omega (arith, so_far.enough)) key next.is;
        shorter = omega (arith, so_far.shorter);
        answers = next.has;
      }

  pub member_stops : (name : List ℕ) → read_key ts ≡ Some (Some name, s) → value_from depth s ≡ None → members_from depth initial ≡ None
  member_stops name key none = so_far.as_whole ∙ member_refused (value depth) so_far.known so_far.turns name ts s key none

  pub key_stops : read_key ts ≡ None → members_from depth initial ≡ None
  key_stops none = so_far.as_whole ∙ key_refused (value depth) so_far.known so_far.turns ts none

  pub members_end : read_key ts ≡ Some (None, s) → Begins (members_from depth initial) (IsAnswer old) s
  members_end end = record { first = so_far.known; is = so_far.as_whole ∙ members_over (value depth) so_far.known so_far.turns ts s so_far.enough end; has = so_far.answers }

-- ---- a value by its first token

abbrev Has : (Data → Type 0) → Option (Data × List Token) → Type 0
Has P None = ⊤
Has P (Some p) = P p.0

module _ (P : Data → Type 0) where
  numbered : (ts : List Token) (n : Option _) → ((n : _) → P (number n)) → Has P (option_map (λ d. (d, ts)) (option_map number n))
  numbered ts None h = tt
  numbered ts (Some n) h = h n

  arrayed : (o : Option (Items × List Token)) → ((items : Items) → P (array items)) → Has P (parse_map array o)
  arrayed None h = tt
  arrayed (Some p) h = h p.0

  objected : (o : Option (Members × List Token)) → ((members : Members) → P (object members)) → Has P (parse_map object o)
  objected None h = tt
  objected (Some p) h = h p.0

abbrev NoArray : Data → Type 0
NoArray d = array_in d ≡ None

abbrev NoObject : Data → Type 0
NoObject d = as_object d ≡ None

module _ (a : Parse json.Items) (o : Parse json.Members) (ts : List Token) where
  no_array_by : (t : Token) → opens_array t ≡ false → Has NoArray (converted of_json (value_with a o (t ∷ ts)))
  no_array_by Token.begin_object e = rw (converted-object (o ts)) (objected NoArray _ (λ members. refl))
  no_array_by Token.end_object e = tt
  no_array_by Token.begin_array e = absurd (let g : true ≡ false = e in cc)
  no_array_by Token.end_array e = tt
  no_array_by (Token.key s) e = tt
  no_array_by (Token.string s) e = refl
  no_array_by (Token.number s) e = numbered NoArray ts (number_of s) (λ n. refl)
  no_array_by (Token.boolean b) e = refl
  no_array_by Token.null e = refl
  no_array_by Token.bad e = tt

  no_object_by : (t : Token) → opens_object t ≡ false → Has NoObject (converted of_json (value_with a o (t ∷ ts)))
  no_object_by Token.begin_object e = absurd (let g : true ≡ false = e in cc)
  no_object_by Token.end_object e = tt
  no_object_by Token.begin_array e = rw (converted-array (a ts)) (arrayed NoObject _ (λ items. refl))
  no_object_by Token.end_array e = tt
  no_object_by (Token.key s) e = tt
  no_object_by (Token.string s) e = refl
  no_object_by (Token.number s) e = numbered NoObject ts (number_of s) (λ n. refl)
  no_object_by (Token.boolean b) e = refl
  no_object_by Token.null e = refl
  no_object_by Token.bad e = tt

module _ (depth : ℕ) (t : Token) (ts r : List Token) (d : Data) (found : converted of_json (value depth (t ∷ ts)) ≡ Some (d, r)) where
  pub not_array : opens_array t ≡ false → array_in d ≡ None
  not_array e = subst (Has NoArray) (sym (ap (converted of_json) (value_is depth (t ∷ ts))) ∙ found) (no_array_by _ _ ts t e)

  pub not_object : opens_object t ≡ false → as_object d ≡ None
  not_object e = subst (Has NoObject) (sym (ap (converted of_json) (value_is depth (t ∷ ts))) ∙ found) (no_object_by _ _ ts t e)

pub array_token : (t : Token) → opens_array t ≡ true → t ≡ Token.begin_array
array_token Token.begin_object e = absurd (let g : false ≡ true = e in cc)
array_token Token.end_object e = absurd (let g : false ≡ true = e in cc)
array_token Token.begin_array e = refl
array_token Token.end_array e = absurd (let g : false ≡ true = e in cc)
array_token (Token.key s) e = absurd (let g : false ≡ true = e in cc)
array_token (Token.string s) e = absurd (let g : false ≡ true = e in cc)
array_token (Token.number s) e = absurd (let g : false ≡ true = e in cc)
array_token (Token.boolean b) e = absurd (let g : false ≡ true = e in cc)
array_token Token.null e = absurd (let g : false ≡ true = e in cc)
array_token Token.bad e = absurd (let g : false ≡ true = e in cc)

pub object_token : (t : Token) → opens_object t ≡ true → t ≡ Token.begin_object
object_token Token.begin_object e = refl
object_token Token.end_object e = absurd (let g : false ≡ true = e in cc)
object_token Token.begin_array e = absurd (let g : false ≡ true = e in cc)
object_token Token.end_array e = absurd (let g : false ≡ true = e in cc)
object_token (Token.key s) e = absurd (let g : false ≡ true = e in cc)
object_token (Token.string s) e = absurd (let g : false ≡ true = e in cc)
object_token (Token.number s) e = absurd (let g : false ≡ true = e in cc)
object_token (Token.boolean b) e = absurd (let g : false ≡ true = e in cc)
object_token Token.null e = absurd (let g : false ≡ true = e in cc)
object_token Token.bad e = absurd (let g : false ≡ true = e in cc)

-- ---- arrays and objects

module _ (depth : ℕ) (t : Token) (ts r : List Token) (some : 0 < depth) where
  pub array_read : opens_array t ≡ true → (answer : Result (List Context) JsonFault)
      → Begins (items_from (depth - 1) ts) (λ items. OrError Memory answer (contexts_answer (items_list items))) r
      → Begins (value_from depth (t ∷ ts)) (λ d. OrError Memory answer (linkset_answer d)) r
  array_read e answer h = record {
    first = array h.first;
    is = array_opened depth (t ∷ ts) ts (ap (λ k. k ∷ ts) (array_token t e)) some ∙ ap (parse_map array) h.is;
    has = linkset_is h.first answer h.has;
  }

  pub array_refused : opens_array t ≡ true → items_from (depth - 1) ts ≡ None → value_from depth (t ∷ ts) ≡ None
  array_refused e h = array_opened depth (t ∷ ts) ts (ap (λ k. k ∷ ts) (array_token t e)) some ∙ ap (parse_map array) h

  pub object_read : opens_object t ≡ true → (answer : Result (List Context) JsonFault) → Begins (members_from (depth - 1) ts) (IsAnswer answer) r
      → Begins (value_from depth (t ∷ ts)) (λ d. OrError Memory answer (document_answer d)) r
  object_read e answer h = record {
    first = object h.first;
    is = object_opened depth (t ∷ ts) ts (ap (λ k. k ∷ ts) (object_token t e)) some ∙ ap (parse_map object) h.is;
    has = h.has.0;
  }

  pub object_refused : opens_object t ≡ true → members_from (depth - 1) ts ≡ None → value_from depth (t ∷ ts) ≡ None
  object_refused e h = object_opened depth (t ∷ ts) ts (ap (λ k. k ∷ ts) (object_token t e)) some ∙ ap (parse_map object) h

module _ (depth : ℕ) (t : Token) (ts r : List Token) (d : Data) (found : value_from depth (t ∷ ts) ≡ Some (d, r)) (place : List ℕ) where
  pub other_linkset : opens_array t ≡ false → place ≡ linkset_place → Begins (value_from depth (t ∷ ts)) (λ d. OrError Memory (Err (Kind place)) (linkset_answer d)) r
  other_linkset e at = record { first = d; is = found; has = inr (ap (λ p. Err (Kind p)) at ∙ sym (no_linkset d (not_array depth t ts r d found e))) }

  pub other_root : opens_object t ≡ false → place ≡ [] → Begins (value_from depth (t ∷ ts)) (λ d. OrError Memory (Err (Kind place)) (document_answer d)) r
  other_root e at = record { first = d; is = found; has = inr (ap (λ p. Err (Kind p)) at ∙ sym (no_object d (not_object depth t ts r d found e))) }

pub no_value : (depth : ℕ) (ts : List Token) → ts ≡ [] → value_from depth ts ≡ None
no_value depth ts empty = ap (converted of_json) (ap (value depth) empty ∙ value_is depth [])

-- ---- the whole text

last_none : (r : List Token) (j : json.Json) → option_map {U = Data × List Token} (λ d. (d, r)) (of_json j) ≡ None → option_and_then of_json
    (if_last j r) ≡ None
last_none [] j h = by (of_json j) h
  where
    by : (x : Option Data) → option_map {U = Data × List Token} (λ d. (d, [])) x ≡ None → x ≡ None
    by None h = refl
    by (Some d) h = absurd (cc)
last_none (t ∷ ts) j h = refl

refused : (o : Option (json.Json × List Token)) → converted of_json o ≡ None → option_and_then of_json (option_and_then (λ p. if_last p.0 p.1) o) ≡ None
refused None h = refl
refused (Some p) h = last_none p.1 p.0 h

more_by : (o : Option (json.Json × List Token)) (j : json.Json) (r s : List Token) (t : Token) → o ≡ Some (j, r) → r ≡ t ∷ s
    → option_and_then of_json (option_and_then (λ p. if_last p.0 p.1) o) ≡ None
more_by o j r s t e more = rw (e, more) refl

more_than_one : (o : Option (json.Json × List Token)) (r s : List Token) (t : Token) (d : Data) → converted of_json o ≡ Some (d, r)
    → r ≡ t ∷ s → option_and_then of_json (option_and_then (λ p. if_last p.0 p.1) o) ≡ None
more_than_one o r s t d e more = let j = converted_some of_json o d r e in more_by o j.0 r s t j.1 more

-- more tokens after the value
pub not_last : {P : Data → Type 0} (text : List ℕ) (r : List Token) (t : Token) (s : List Token) → Begins (value_from 127 (tokens text)) P r
    → r ≡ t ∷ s → OrError {X = List Context} Memory (Err Syntax) (option_map_or document_answer (read_text text) (Err Syntax))
not_last text r t s h more = rw (more_than_one (value 127 (tokens text)) r s t h.first h.is more) (inr refl)

pub mapped : {X E : Type 0} {P Q : X → Type 0} (r : Result X E) → IfOk r P → ((x : X) → P x → Q x) → IfOk r Q
mapped (Ok x) h f = f x h
mapped (Err e) h f = tt
