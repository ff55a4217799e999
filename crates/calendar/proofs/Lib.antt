mod FirstDays
