-- What is said of a refusal: as in "problem: it ends too early (14), at byte 53".
use Rattle.std.specs.Prelude.{List, [], ◌++◌, ℕ, codes, decimal}
use Rattle.model.specs.declared.Refusal.{Refusal}
use Rattle.model.specs.Faults.{fault_number}
use Rattle.answers.specs.declared.rows.Unit.{Unit as PlaceUnit}
use Rattle.answers.specs.declared.rows.Unit.TheVariants.{Nothing, Byte, Line, End}
use Rattle.answers.specs.Rows.{fault_row}

-- a place, as in ", at byte 53"
abbrev pub place_words : PlaceUnit → ℕ → List ℕ
place_words Nothing place = []
place_words Byte place = codes ", at byte " ++ decimal place
place_words Line place = codes ", at line " ++ decimal place
place_words End place = codes ", at line " ++ decimal place

-- reasons: what is wrong with which block, in words, and the number and the place that it is known by
abbrev pub reason : Refusal → List ℕ
reason r =
    let row = fault_row r.fault in
    row.subject ++ (codes ": " ++ (row.words ++ (codes " (" ++ (decimal (fault_number r.fault) ++ (codes ")" ++ place_words row.unit r.place)))))
