-- Finished connections, and a code of them.
use Rattle.std.specs.Prelude.{ℕ, List, refl}
use Rattle.std.specs.Coded.{Coded, coded_list, coded_ℕ, coded×, code_by}
use Rattle.gs_port.specs.Asides.{Finished}

-- a finished connection with these bytes read and written, and these rises of its counts
abbrev pub finished_with : List ℕ → List ℕ → ℕ → ℕ → Finished
finished_with read written reads writes = record { read = read; written = written; reads = reads; writes = writes }

-- a code of finished connections, by their fields
abbrev pub coded_finished : Coded Finished
coded_finished = code_by (List ℕ × (List ℕ × (ℕ × ℕ)))
    (coded× (coded_list coded_ℕ) (coded× (coded_list coded_ℕ) (coded× coded_ℕ coded_ℕ)))
    (λ f. (f.read, (f.written, (f.reads, f.writes)))) (λ t. record { read = t.0; written = t.1.0; reads = t.1.1.0; writes = t.1.1.1 }) (λ _. refl)
