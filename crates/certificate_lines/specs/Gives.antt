-- What the code returns, beside what a definition reads: the same, or want of memory.
use Rattle.std.specs.Prelude.{◌≡◌, ℕ, Bool, Result, Ok, Err, if◌then◌else◌}
use Rattle.certificate_lines.specs.declared.fault.FaultKind.{FaultKind}
use Rattle.certificate_lines.specs.declared.fault.FaultKind.TheVariants.{BadLine}
use Rattle.certificate_lines.specs.declared.fault.CertFault.{CertFault}
use Rattle.certificate_lines.specs.declared.fault.LineError.{LineError}
use Rattle.certificate_lines.specs.declared.fault.LineError.TheVariants as line_error
use Rattle.certificate_lines.specs.declared.fault.CertError.{CertError}
use Rattle.certificate_lines.specs.declared.fault.CertError.TheVariants as cert_error
use Rattle.certificate_lines.specs.Lines.{Rest}

-- of a call that takes no memory
abbrev pub Takes : {X Y : Type 0} → (X → Y) → Result X FaultKind → Result Y FaultKind → Type 0
Takes view (Ok x) read = read ≡ Ok (view x)
Takes view (Err kind) read = read ≡ Err kind

abbrev pub LineFails : {Y : Type 0} → LineError → Result Y FaultKind → Type 0
LineFails (line_error.Fault kind) read = read ≡ Err kind
LineFails line_error.NoMemory read = Unit {0}

-- of the fields of a line
abbrev pub LineGives : {X Y : Type 0} → (X → Y) → Result X LineError → Result Y FaultKind → Type 0
LineGives view (Ok x) read = read ≡ Ok (view x)
LineGives view (Err e) read = LineFails e read

abbrev pub Fails : {Y : Type 0} → CertError → Result Y CertFault → Type 0
Fails (cert_error.Fault fault) read = read ≡ Err fault
Fails cert_error.NoMemory read = Unit {0}

-- of a whole text
abbrev pub Gives : {X Y : Type 0} → (X → Y) → Result X CertError → Result Y CertFault → Type 0
Gives view (Ok x) read = read ≡ Ok (view x)
Gives view (Err e) read = Fails e read

-- of lines, and what is left after them
abbrev pub Reads : {X Y : Type 0} → (X → Y) → Result X CertError → Rest → Result (Y × Rest) CertFault → Type 0
Reads view (Ok x) rest read = read ≡ Ok (view x, rest)
Reads view (Err e) rest read = Fails e read

-- what was read of a line of this number, where a line feed ends it
abbrev pub closing : {X : Type 0} → ℕ → Bool → Result X LineError → Result X CertError
closing number feed (Ok x) = if feed then Ok x else Err (cert_error.Fault (record { line = number; kind = BadLine }))
closing number feed (Err (line_error.Fault kind)) = Err (cert_error.Fault (record { line = number; kind = kind }))
closing number feed (Err line_error.NoMemory) = Err cert_error.NoMemory
