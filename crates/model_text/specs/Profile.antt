-- How far a reader of files goes.
use Rattle.std.specs.Prelude.{◌≤◌}
use Rattle.model_text.specs.declared.profile.Profile.{Profile}

-- no limit passes what an instance holds
pub record IsWithinInstance (profile : Profile) : Type 0 where
  pub rows : profile.rows ≤ 1_000_000
  pub columns : profile.columns ≤ 1_000_000
  pub entries : profile.entries ≤ 20_000_000

-- today's reader
abbrev pub reader_profile : Profile
reader_profile = record {
  rows = 1_000_000;
  columns = 1_000_000;
  entries = 20_000_000;
}
