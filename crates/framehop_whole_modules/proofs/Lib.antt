mod PlainSteps
mod RowOrPlain
