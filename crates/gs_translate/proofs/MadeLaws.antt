-- The identity that a text names is made with the table of its set.
use Rattle.std.proofs.Common.{◌≡◌, ℕ, All, Bool, true, false, not, List, [], ◌∷◌, ◌++◌, drop, length, ◌+◌, Option, Some, None, Ok, Err, refl, sym, ap, subst, ◌∙◌}
use Rattle.std.specs.Prelude.{Result, if◌then◌else◌}
use Rattle.std.proofs.lemmas.List.Elements.{All-cons, All-nil}
use Rattle.gs_ai.specs.declared.pair.Pair.{Pair}
use Rattle.gs_ai.specs.declared.row.AiRow.{AiRow}
use Rattle.gs_bits.specs.HexText.{bits_of_hex}
use Rattle.gs_dlink.specs.declared.error.LinkFault.TheVariants.{NotHttp, NoKeyPath}
use Rattle.gs_dlink.specs.Answers.{IsLink, by_authority, by_key_path, is_rooted, link_answer, target_answer}
use Rattle.gs_dlink.specs.Paths.{key_path}
use Rattle.gs_dlink.specs.Uris.{Written, authority_end, path_of, query_of, query_pairs, segments}
use Rattle.gs_dlink.proofs.JudgementLemmas.{written_in_order}
use Rattle.gs_tables_document.specs.declared.document.LevelName.{LevelName}
use Rattle.gs_tables_document.specs.declared.document.LevelName.TheVariants as level
use Rattle.gs_element.specs.BracketedTexts.{IsBracketed, IsBracketedElement}
use Rattle.gs_element.specs.Joins.{Form as ElementForm, Joined}
use Rattle.gs_element.specs.Raw.{IsRaw, IsRawElement, body_of}
use Rattle.gs_epc.specs.declared.epc.Epc.{Epc}
use Rattle.gs_epc.specs.declared.error.EpcFault.{EpcFault}
use Rattle.gs_epc.specs.declared.error.EpcFault.TheVariants.{Memory as NoRoom}
use Rattle.gs_epc.specs.Epcs.{IsOfSet}
use Rattle.gs_epc.specs.Layout.{IsLaidOut, key_pair, lay, fields_in}
use Rattle.gs_epc.specs.LayoutSupport.{serial_pairs}
use Rattle.gs_epc.specs.Readings.{ReadsAs, ReadsHex, Says}
use Rattle.gs_epc.proofs.KeptLaws.{fit_kind}
use Rattle.gs_epc.proofs.LayoutLaws.{laid_identity, laid_in_order}
use Rattle.gs_epc.proofs.ReadingFacts.{IsSaid, of_set}
use Rattle.gs_ident.specs.declared.errors.IdentFault.{IdentFault}
use Rattle.gs_ident.specs.Elements.{Elements}
use Rattle.gs_ident.specs.Identities.{IsInOrder, IsMadeWith, identity_of_pairs}
use Rattle.gs_ident.proofs.IdentityLemmas.{made_with}
use Rattle.gs_tables.specs.Tables.{IsShaped, TableRows}
use Rattle.gs_translate.specs.declared.form.Form.{Form}
use Rattle.gs_translate.specs.declared.form.Form.TheVariants as form
use Rattle.gs_translate.specs.declared.reader.Meaning.{Meaning}
use Rattle.gs_translate.specs.declared.reason.Reason.{Reason}
use Rattle.gs_translate.specs.declared.reason.Reason.TheVariants.{Epc as NoEpc, Ident}
use Rattle.gs_translate.specs.Meanings.{IsIdentified, IsRead, Means, MeansEpc, ReadsBracketed, ReadsRaw, epc_meaning, identity_meaning, link_reason, short, too_long}
use Rattle.gs_translate.specs.MeaningsSupport.{ReadsLink, identified}
use Rattle.gs_translate.specs.Steps.{Reworded, Then, goes_on, rejects}
use Rattle.gs_translate.proofs.PairLaws.{ais_kept}
use Rattle.gs_translate.proofs.StepLaws.{given_ok, said_ok}

-- ---- pairs that are read are valid

joined_in_order : (table : List AiRow) (Element : ElementForm)
    → ((pair : Pair) (text after : List ℕ) → Element pair text after → IsInOrder table pair) → (pairs : List Pair) (text rest : List ℕ)
    → Joined Element pairs text rest → All (IsInOrder table) pairs
joined_in_order table Element own [] text rest j = All-nil (IsInOrder table)
joined_in_order table Element own (pair ∷ pairs) text rest j = All-cons (IsInOrder table) pair pairs (own pair text j.0 j.1)
    (joined_in_order table Element own pairs j.0 rest j.2)

raw_in_order : (table : List AiRow) (text : List ℕ) (pairs : List Pair) → IsRaw table text pairs → All (IsInOrder table) pairs
raw_in_order table text pairs j = joined_in_order table (IsRawElement table) (λ pair front after h. h.in_order) pairs (body_of text) [] j

bracketed_in_order : (table : List AiRow) (text : List ℕ) (pairs : List Pair) → IsBracketed table text pairs → All (IsInOrder table) pairs
bracketed_in_order table text pairs j = joined_in_order table (IsBracketedElement table) (λ pair front after h. h.in_order) pairs text [] j

path_in_order : (table : List AiRow) (query : List Written) (path : Option (List Written)) (pairs : List Pair)
    → by_key_path table query path ≡ Ok pairs → All (IsInOrder table) pairs
path_in_order table query None pairs e = absurd (let f : Err NoKeyPath ≡ Ok pairs = e in cc)
path_in_order table query (Some path) pairs e = written_in_order table (path ++ query) pairs e

rooted_in_order : (table : List AiRow) (query : List Written) (path : Option (List Written)) (rooted : Bool) (pairs : List Pair)
    → (if not rooted then Err NoKeyPath else by_key_path table query path) ≡ Ok pairs → All (IsInOrder table) pairs
rooted_in_order table query path true pairs e = path_in_order table query path pairs e
rooted_in_order table query path false pairs e = absurd (let f : Err NoKeyPath ≡ Ok pairs = e in cc)

target_in_order : (table : List AiRow) (at : ℕ) (text : List ℕ) (pairs : List Pair) → target_answer table at text ≡ Ok pairs → All (IsInOrder table) pairs
unfolding target_answer
target_in_order table at text pairs e =
    rooted_in_order table (query_pairs (at + length (path_of text) + 1) (query_of text)) (key_path table (segments at (path_of text)))
    (is_rooted (path_of text)) pairs e

authority_in_order : (table : List AiRow) (text : List ℕ) (at : Option ℕ) (pairs : List Pair) → by_authority table text at ≡ Ok pairs
    → All (IsInOrder table) pairs
authority_in_order table text None pairs e = absurd (let f : Err NotHttp ≡ Ok pairs = e in cc)
authority_in_order table text (Some at) pairs e = target_in_order table at (drop at text) pairs e

link_in_order : (table : List AiRow) (text : List ℕ) (pairs : List Pair) → IsLink table text pairs → All (IsInOrder table) pairs
unfolding link_answer
link_in_order table text pairs e = authority_in_order table text (authority_end text) pairs e

-- ---- the identity of pairs

identified_made : (table : List AiRow) (pairs : List Pair) (made : Result Elements IdentFault) (meaning : Meaning)
    → All (IsInOrder table) pairs → identity_of_pairs table pairs ≡ made → Ok meaning ≡ identified made → IsMadeWith table meaning.identity
identified_made table pairs (Ok identity) meaning all own e =
    let same : meaning ≡ identity_meaning identity = let f : Ok meaning ≡ Ok (identity_meaning identity) = e in cc in
    subst (λ (x : Meaning). IsMadeWith table x.identity) (sym same) (made_with table pairs identity all own)
identified_made table pairs (Err error) meaning all own e = absurd (let f : Ok meaning ≡ Err (Ident error) = e in cc)

pairs_made : (set : TableRows) (Reads : Result (List Pair) Reason → Type 0) (meaning : Meaning)
    → ((pairs : List Pair) → Reads (Ok pairs) → All (IsInOrder set.ais) pairs) → Then Reads (IsIdentified set) (Ok meaning)
    → IsMadeWith set.ais meaning.identity
pairs_made set Reads meaning all (rejects error read e) = absurd (let f : Ok meaning ≡ Err error = e in cc)
pairs_made set Reads meaning all (goes_on pairs read e) = identified_made set.ais pairs (identity_of_pairs set.ais pairs) meaning (all pairs read) refl e

-- ---- the identity of an EPC

says_of_set : (set : TableRows) (level : LevelName) (symbols : List ℕ) (epc : Epc) → Says set level symbols epc → IsOfSet set epc
says_of_set set level symbols epc says =
    let d = says.read.derivation in
    let is : IsSaid set level says.option says.values says.info = record {
      items = d.items;
      words = d.words;
      of_level = rw says.read.of_option at d.of_level;
      said = says.said;
      held = rw says.read.of_values at d.derives.each;
    } in
    of_set set level says.option says.values says.info epc is says.fields

laid_made : (set : TableRows) (epc : Epc) (elements : Elements) → IsShaped set → IsOfSet set epc → IsLaidOut set epc elements → IsMadeWith set.ais elements
laid_made set epc elements shaped of laid =
    let kind = fit_kind set epc shaped of in
    let both : Some laid.kind ≡ Some kind.0 = sym laid.named ∙ kind.1 in
    let same : laid.kind ≡ kind.0 = cc in
    let is : elements ≡ lay set.ais kind.0 (fields_in epc) = laid.laid ∙ ap (λ k. lay set.ais k (fields_in epc)) same in
    let rules = ais_kept set shaped in
    let pairs = key_pair set.ais kind.0 (fields_in epc) ∷ serial_pairs kind.0.serial epc.serial in
    let made = made_with set.ais pairs (lay set.ais kind.0 (fields_in epc)) (laid_in_order set.ais kind.0 (fields_in epc) kind.2 rules) (laid_identity set.ais kind.0 (fields_in epc) kind.2 rules) in
    subst (λ (e : Elements). IsMadeWith set.ais e) (sym is) made

epc_made : (set : TableRows) (Reads : Result Epc EpcFault → Type 0) (meaning : Meaning) → IsShaped set
    → ((epc : Epc) → Reads (Ok epc) → IsOfSet set epc) → Then (Reworded NoRoom NoEpc Reads) (MeansEpc set) (Ok meaning)
    → IsMadeWith set.ais meaning.identity
epc_made set Reads meaning shaped of (rejects error read e) = absurd (let f : Ok meaning ≡ Err error = e in cc)
epc_made set Reads meaning shaped of (goes_on epc read (elements, laid, is)) =
    let same : meaning ≡ epc_meaning epc elements = (let f : Ok meaning ≡ Ok (epc_meaning epc elements) = is in cc) in
    subst (λ (x : Meaning). IsMadeWith set.ais x.identity) (sym same) (laid_made set epc elements shaped (of epc (given_ok NoRoom NoEpc Reads epc read)) laid)

-- ---- the identity of a text

means_made : (set : TableRows) (form : Form) (text : List ℕ) (meaning : Meaning) → IsShaped set → Means set form text (Ok meaning)
    → IsMadeWith set.ais meaning.identity
means_made set form.Hex text meaning shaped m = epc_made set (ReadsHex set text) meaning shaped
    (λ epc read. says_of_set set level.Binary (bits_of_hex text) epc read.1) m
means_made set form.Tag text meaning shaped m = epc_made set (ReadsAs set level.Tag text) meaning shaped (λ epc read. says_of_set set level.Tag text epc read) m
means_made set form.Pure text meaning shaped m = epc_made set (ReadsAs set level.Pure text) meaning shaped
    (λ epc read. says_of_set set level.Pure text epc read) m
means_made set form.Raw text meaning shaped m = pairs_made set (ReadsRaw set text) meaning (λ pairs read. raw_in_order set.ais text pairs read) m
means_made set form.Bracketed text meaning shaped m = pairs_made set (ReadsBracketed set text) meaning
    (λ pairs read. bracketed_in_order set.ais text pairs read) m
means_made set form.Link text meaning shaped m = pairs_made set (ReadsLink set text) meaning
    (λ pairs read. link_in_order set.ais text pairs (said_ok link_reason (link_answer set.ais text) pairs read)) m

pub made_of_read : (set : TableRows) (form : Form) (text : List ℕ) (meaning : Meaning) → IsShaped set → IsRead set form text (Ok meaning)
    → IsMadeWith set.ais meaning.identity
made_of_read set form text meaning shaped (too_long more e) = absurd (cc)
made_of_read set form text meaning shaped (short few m) = means_made set form text meaning shaped m
