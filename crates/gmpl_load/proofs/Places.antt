-- What is taken out of a place and put back.
use Rattle.std.proofs.Common.{◌≡◌, ℕ}
use Rattle.std.specs.Prelude.{set}
use Rattle.std.proofs.lemmas.List.{set-set}
use Rattle.gmpl_data.specs.declared.tables.Given.{Given}
use Rattle.gmpl_load.specs.Tables.{Tables}

pub put_back : (tables : Tables) (place : ℕ) (left more : Given) → set (set tables place left) place more ≡ set tables place more
put_back tables place left more = set-set tables place left more
