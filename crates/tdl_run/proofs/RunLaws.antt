-- A run has one outcome over known files and a known input, or outcomes that differ only in the text of an ambiguous level.
use Rattle.std.proofs.Common.{◌≡◌, ◌⊎◌, inl, inr, ℕ, List, Some, refl, sym, ◌∙◌, ap}
use Rattle.std.specs.Prelude.{Ok, Err}
use Rattle.tdl_lines.specs.declared.status.Status.TheVariants as status
use Rattle.gs_translate.specs.StepsSupport.{HasSome}
use Rattle.tdl_arguments.specs.Requests.{Asked, WordsInOrder, usage_line}
use Rattle.tdl_arguments.proofs.DecidedWords.{Decided, order_or_not}
use Rattle.tdl_arguments.proofs.RequestLemmas.{one_request}
use Rattle.tdl_loads.specs.declared.loads.Loaded.{Loaded}
use Rattle.tdl_loads.specs.Loads.{FilesGive, Stop, ambiguous}
use Rattle.tdl_run.specs.RanSupport.{AskedRun, CommandRun}
use Rattle.tdl_run.specs.Runs.{AlikeServed, AreAlike, DefinedRun, World, but_errors, but_text, known_world, same, stopped}
use Rattle.tdl_run.specs.Works.{Doorway, Outcome, doing_of, outcome_of, site_of}
use Rattle.tdl_run.proofs.AskedLemmas.{asked_some}
use Rattle.tdl_run.proofs.DoingLemmas.{command_defined, command_one, doing_one}
use Rattle.tdl_loads.proofs.LoadLemmas.{AlikeStops, files_one, one_stop, two_texts}
use Rattle.tdl_loads.proofs.ClassLoads.{classes_kept}
use Rattle.tdl_loads.proofs.ReadLemmas.{loaded_of}

-- stops that are alike leave outcomes that are alike
stops_alike : (words : List (List ℕ)) (world : World) (stop stop' : Stop) (one other : Outcome) → one ≡ stopped stop → other ≡ stopped stop'
    → AlikeStops {A = Loaded} (Err stop) (Err stop') → AreAlike words world one other
stops_alike words world stop stop' one other a b (one_stop e) = let is : stop ≡ stop' = cc in same (a ∙ ap stopped is ∙ sym b)
stops_alike words world stop stop' one other a b (two_texts place text text' e f) =
    let is : stop ≡ ambiguous place text = cc in
    let is' : stop' ≡ ambiguous place text' = cc in
    but_text place text text' (a ∙ ap stopped is) (b ∙ ap stopped is')

-- a load and a stop are not alike
not_alike : (loaded : Loaded) (stop : Stop) → AlikeStops (Ok loaded) (Err stop) → ⊥
not_alike loaded stop (one_stop e) = let f : Ok loaded ≡ Err stop = e in cc
not_alike loaded stop (two_texts place text text' e f) = let g : Ok loaded ≡ Err (ambiguous place text) = e in cc

same_loaded : (loaded loaded' : Loaded) → AlikeStops (Ok loaded) (Ok loaded') → loaded ≡ loaded'
same_loaded loaded loaded' (one_stop e) = let f : Ok loaded ≡ Ok loaded' = e in cc
same_loaded loaded loaded' (two_texts place text text' e f) = absurd (let g : Ok loaded ≡ Err (ambiguous place text) = e in cc)

-- outcomes of a command over the loaded contents
loaded_alike : (words : List (List ℕ)) (asked : Asked) (world : World) (loaded : Loaded) (one other : Outcome) → WordsInOrder words asked
    → FilesGive world.files asked (Ok loaded) → (one ≡ other) ⊎ AlikeServed (site_of loaded) asked.values.count world.door one other
    → AreAlike words world one other
loaded_alike words asked world loaded one other order gives (inl e) = same e
loaded_alike words asked world loaded one other order gives (inr a) = but_errors (record { asked = asked; order = order; fact = (loaded, gives, a) })

asked_one : (words : List (List ℕ)) (asked : Asked) (files : List (List ℕ × List ℕ)) (input : List ℕ) (waiting : List (List ℕ)) (reads writes : ℕ) (one other : Outcome)
    → WordsInOrder words asked → AskedRun asked (known_world files input waiting reads writes) one
    → AskedRun asked (known_world files input waiting reads writes) other
    → AreAlike words (known_world files input waiting reads writes) one other
asked_one words asked files input waiting reads writes one other order (inl (loaded, gives, a)) (inl (loaded', gives', b)) =
    let is = same_loaded loaded loaded' (files_one files asked (Ok loaded) (Ok loaded') gives gives') in
    let door : Doorway = record { waiting = Some waiting; reads = reads; writes = writes } in
    let moved : CommandRun asked.command asked.values loaded (Some input) door other = rw is b in
    let defined = command_defined asked.command asked.values loaded (loaded_of (Some files) asked loaded gives) (classes_kept (Some files) asked loaded gives) in
    loaded_alike words asked (known_world files input waiting reads writes) loaded one other order gives
    (command_one asked.command asked.values loaded door one other
    (doing_one (doing_of asked.command asked.values loaded) (site_of loaded) input waiting reads writes one other defined a moved))
asked_one words asked files input waiting reads writes one other order (inl (loaded, gives, a)) (inr (stop, gives', b)) = absurd
    (not_alike loaded stop (files_one files asked (Ok loaded) (Err stop) gives gives'))
asked_one words asked files input waiting reads writes one other order (inr (stop, gives, a)) (inl (loaded, gives', b)) = absurd
    (not_alike loaded stop (files_one files asked (Ok loaded) (Err stop) gives' gives))
asked_one words asked files input waiting reads writes one other order (inr (stop, gives, a)) (inr (stop', gives', b)) = stops_alike words
    (known_world files input waiting reads writes) stop stop' one other a b (files_one files asked (Err stop) (Err stop') gives gives')

pub run_one : (words : List (List ℕ)) (files : List (List ℕ × List ℕ)) (input : List ℕ) (waiting : List (List ℕ)) (reads writes : ℕ) (one other : Outcome)
    → DefinedRun words (known_world files input waiting reads writes) one
    → DefinedRun words (known_world files input waiting reads writes) other
    → AreAlike words (known_world files input waiting reads writes) one other
run_one words files input waiting reads writes one other (inl a) (inl b) =
    let is : a.asked ≡ b.asked = one_request words a.asked b.asked a.order b.order in
    let moved : AskedRun a.asked (known_world files input waiting reads writes) other = rw is b.fact in
    asked_one words a.asked files input waiting reads writes one other a.order a.fact moved
run_one words files input waiting reads writes one other (inl a) (inr (not, e)) = absurd (not a.asked a.order)
run_one words files input waiting reads writes one other (inr (not, e)) (inl b) = absurd (not b.asked b.order)
run_one words files input waiting reads writes one other (inr (not, e)) (inr (not', e')) = same (e ∙ sym e')

run_by : (words : List (List ℕ)) (world : World) → Decided (WordsInOrder words) → HasSome (DefinedRun words world)
run_by words world (inl asked) = let a = asked_some asked.0 world in (a.0, inl (record { asked = asked.0; order = asked.1; fact = a.1 }))
run_by words world (inr not) = (outcome_of usage_line status.Usage, inr (not, refl))

pub run_some : (words : List (List ℕ)) (world : World) → HasSome (DefinedRun words world)
run_some words world = run_by words world (order_or_not words)
