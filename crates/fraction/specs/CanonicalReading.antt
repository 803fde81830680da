-- What `read_canonical` keeps of the parts of a text, in numbers of limited size.
use Rattle.fraction.specs.Canonical.{Quotient as Written}
use Rattle.fraction.specs.Reading.{clipped, significant_end}
use Rattle.fraction.specs.declared.canonical.Quotient.{Quotient}

abbrev pub kept_quotient : Written → Quotient
kept_quotient q = record { negative = q.negative; numerator = clipped significant_end q.numerator; denominator = clipped significant_end q.denominator }
